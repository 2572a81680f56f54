-- What an effect's body says, and how it is evaluated.
use Rattle.std.specs.Prelude.{ℕ, zero, suc, ◌+◌, Bool, true, false, List, [], ◌∷◌, ◌++◌, length, slice_index, None, if◌then◌else◌}
use Rattle.sig_base.specs.declared.value.Value.{Value}
use Rattle.sig_base.specs.declared.value.Value.TheVariants as value
use Rattle.sig_base.specs.declared.value.Fault.{Fault}
use Rattle.sig_base.specs.declared.value.Fault.TheVariants.{Kind, Cycle}
use Rattle.sig_base.specs.declared.value.Known.{Known}
use Rattle.sig_base.specs.declared.value.Outcome.{Outcome}
use Rattle.sig_base.specs.declared.value.Outcome.TheVariants.{Good, Bad}
use Rattle.sig_formula.specs.declared.evaluate.FormulaStep.{FormulaStep}
use Rattle.sig_formula.specs.declared.evaluate.FormulaStep.TheVariants.{Ask, End}
use Rattle.sig_formula.specs.Trees.{Tree}
use Rattle.sig_formula.specs.Evaluation.{formula_step}
use Rattle.signal_model.specs.Recipes.{Hosts, Recipe}
use Rattle.signal_model.specs.Signals.{Signals}
use Rattle.signal_model.specs.Values.{Seen, learnt, unknown_slots, value_of}
use Rattle.effect_model.specs.declared.plain.Plain.{Plain}
use Rattle.effect_model.specs.declared.plain.Plain.TheVariants as p
use Rattle.effect_model.specs.Owners.{Thing, Cleanup, sets, logs}

-- The statements of a body, the first with those after it. The slots of their formulas are places among the names of the body.
pub data Statements : Type 0 where
  no_more : Statements
  -- one line, with cells by their numbers
  plain : Plain ℕ Thing Tree → Statements → Statements
  -- a guard, what it guards, and what stands after both
  when : Tree → Statements → Statements → Statements
  -- the statements of a nested effect, and its own names
  effect : Statements → List ℕ → Statements → Statements
  -- a computed with another recipe
  rewire : ℕ → Recipe → Statements → Statements

-- statements, and the signals that their slots name
pub record Body : Type 0 where
  pub statements : Statements
  pub names : List ℕ

-- what a body wants done, once it is evaluated
pub data Act : Type 0 where
  to_set : ℕ → Value → Act
  to_log : Value → Act
  to_note : Cleanup → Act
  to_make : Body → Act
  to_dispose : Thing → Act
  to_rewire : ℕ → Recipe → Act

-- ---- statements

-- what a body answers: the first slot that it needs, and whether that read is tracked; its acts; or a fault
pub data BodyStep : Type 0 where
  reads : ℕ → Bool → BodyStep
  acts : List Act → BodyStep
  fails : Fault → BodyStep

-- acts, and then those of the rest
abbrev pub followed_by : List Act → BodyStep → BodyStep
followed_by as' (reads s tracked) = reads s tracked
followed_by as' (acts bs) = acts (as' ++ bs)
followed_by as' (fails e) = fails e

-- an act, and then those of the rest
abbrev pub one_first : Act → BodyStep → BodyStep
one_first a rest = followed_by (a ∷ []) rest

-- what is guarded, and then the rest
abbrev pub and_then : BodyStep → BodyStep → BodyStep
and_then (reads s tracked) rest = reads s tracked
and_then (acts as') rest = followed_by as' rest
and_then (fails e) rest = fails e

-- goes on with the value of a formula
abbrev pub with_answer : FormulaStep → (Value → BodyStep) → BodyStep
with_answer (Ask s tracked) go = reads s tracked
with_answer (End (Good v)) go = go v
with_answer (End (Bad e)) go = fails e

-- what is set is a scalar, and rows are none
abbrev pub if_scalar : Value → BodyStep → BodyStep
if_scalar (value.Rows t) go = fails Kind
if_scalar _ go = go

-- a guard is a truth
abbrev pub guarded : Value → BodyStep → BodyStep → BodyStep
guarded (value.Bool b) inner rest = if b then and_then inner rest else rest
guarded _ inner rest = fails Kind

-- what one line answers by itself, by what was read so far, tracked and untracked
abbrev pub plain_step : Plain ℕ Thing Tree → List Known → List Known → BodyStep
plain_step (p.Set n f) ts us = with_answer (formula_step true f None ts us) (λ v. if_scalar v (acts (to_set n v ∷ [])))
plain_step (p.Log f) ts us = with_answer (formula_step true f None ts us) (λ v. acts (to_log v ∷ []))
plain_step (p.CleanupSet n f) ts us = with_answer (formula_step true f None ts us) (λ v. if_scalar v (acts (to_note (sets n v) ∷ [])))
plain_step (p.CleanupLog f) ts us = with_answer (formula_step true f None ts us) (λ v. acts (to_note (logs v) ∷ []))
plain_step (p.Dispose t) ts us = acts (to_dispose t ∷ [])

-- The statements in order. A nested effect isn't evaluated.
abbrev pub body_step : Statements → List Known → List Known → BodyStep
body_step no_more ts us = acts []
body_step (plain a rest) ts us = and_then (plain_step a ts us) (body_step rest ts us)
body_step (when f inner rest) ts us =
    with_answer (formula_step true f None ts us) (λ v. guarded v (body_step inner ts us) (body_step rest ts us))
body_step (effect inner names rest) ts us = one_first (to_make (record { statements = inner; names = names })) (body_step rest ts us)
body_step (rewire n r rest) ts us = one_first (to_rewire n r) (body_step rest ts us)

-- ---- the whole body

-- how a body ends: with acts to do, or by a fault
pub data BodyResult : Type 0 where
  to_do : List Act → BodyResult
  failed_by : Fault → BodyResult

-- what it read, in order; of that the tracked reads, in the order of first tracked reading; and how it ended
pub record BodyEvaluation : Type 0 where
  pub reads : List Seen
  pub tracked : List Seen
  pub result : BodyResult

-- it ends and reads nothing more
abbrev pub body_ended : BodyResult → BodyEvaluation
body_ended r = record { reads = []; tracked = []; result = r }

-- a tracked read is kept
abbrev pub if_tracked : Bool → Seen → List Seen → List Seen
if_tracked true s ss = s ∷ ss
if_tracked false s ss = ss

-- it reads a source before the rest
abbrev pub read_before : Bool → Seen → BodyEvaluation → BodyEvaluation
read_before tracked s rest = record { reads = s ∷ rest.reads; tracked = if_tracked tracked s rest.tracked; result = rest.result }

-- a fault that is read ends the body, and with a good value it goes on
abbrev pub after_body_read : Bool → ℕ → Outcome → (Value → BodyEvaluation) → BodyEvaluation
after_body_read tracked m (Bad e) go = read_before tracked (record { name = m; outcome = Bad e }) (body_ended (failed_by e))
after_body_read tracked m (Good v) go = read_before tracked (record { name = m; outcome = Good v }) (go v)

-- what was read is known to tracked or to untracked reads
abbrev pub with_known : Bool → ℕ → Value → (List Known → List Known → BodyEvaluation) → List Known → List Known → BodyEvaluation
with_known true s v go ts us = go (learnt ts s v) us
with_known false s v go ts us = go ts (learnt us s v)

-- one answer of a body
abbrev pub after_body_step : BodyStep → (ℕ → ℕ) → (ℕ → Outcome) → (ℕ → Bool → Value → BodyEvaluation) → BodyEvaluation
after_body_step (acts as') name source go = body_ended (to_do as')
after_body_step (fails e) name source go = body_ended (failed_by e)
after_body_step (reads s tracked) name source go = after_body_read tracked (name s) (source (name s)) (go s tracked)

-- a body asked at most so many times
abbrev pub body_asked_within : ℕ → Body → (ℕ → Outcome) → List Known → List Known → BodyEvaluation
body_asked_within zero b source ts us = body_ended (failed_by Cycle)
body_asked_within (suc turns) b source ts us =
    after_body_step (body_step b.statements ts us) (λ s. slice_index b.names s) source
    (λ s tracked v. with_known tracked s v (body_asked_within turns b source) ts us)

-- Asked again and again with what it has read. Each read makes one more slot known to tracked or to untracked reads, so the bound is
-- never met.
abbrev pub body_asked_from : Body → (ℕ → Outcome) → List Known → List Known → BodyEvaluation
body_asked_from b source ts us =
    body_asked_within (suc (unknown_slots (length b.names) ts + unknown_slots (length b.names) us)) b source ts us

-- a body on the values from scratch
abbrev pub body_evaluation : Hosts → Signals → Body → BodyEvaluation
body_evaluation hosts w b = body_asked_from b (λ m. value_of hosts w m []) [] []
