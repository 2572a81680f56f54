-- A formula that is asked again with each value that it reads.
use Rattle.std.proofs.Common.{◌≡◌, ℕ, ◌<◌, refl, sym, ap, subst, ◌∙◌, arith, List, [], ◌∷◌, length, Option, Some, None}
use Rattle.std.specs.Prelude.{slice_index}
use Rattle.std.specs.List.{slice_get}
use Rattle.tpl_model.proofs.Shared.{counted_at, counted_length}
use Rattle.sig_base.specs.declared.value.Value.{Value}
use Rattle.sig_base.specs.declared.value.Fault.{Fault}
use Rattle.sig_base.specs.declared.value.Fault.TheVariants.{Gone}
use Rattle.sig_base.specs.declared.value.Known.{Known}
use Rattle.sig_base.specs.declared.value.Outcome.{Outcome}
use Rattle.sig_base.specs.declared.value.Outcome.TheVariants.{Good, Bad}
use Rattle.sig_base.specs.declared.value.Step.{Step}
use Rattle.sig_base.specs.declared.value.Step.TheVariants.{Read, Done, Fail}
use Rattle.sig_formula.specs.Evaluation.{answer_of}
use Rattle.sig_formula.specs.Trees.{Tree}
use Rattle.sig_formula.specs.declared.formula.RowRef.{RowRef}
use Rattle.signal_model.specs.Recipes.{no_hosts, judged, IsJudged, IsUnknownSlot}
use Rattle.signal_model.specs.Sound.{names_of}
use Rattle.signal_model.specs.Values.{Evaluation, after_read, after_step, asked_from, ended, learnt, read_first, unknown_slots}
use Rattle.signal_model.proofs.Shared.{asked_by_steps, unknown_less}
use Rattle.tpl_model.specs.Sources.{counted, first_missing, on_known, or_gone}
use Rattle.tpl_scratch.specs.declared.stop.Stop.{Stop}
use Rattle.tpl_scratch.specs.declared.stop.Stop.TheVariants as stop
use Rattle.tpl_scratch.specs.Pages.{answered, recipe_on, IsFound, IsNeed, Stops}

-- ---- one answer

-- the evaluation once some slots are read
abbrev pub going : List (Option Outcome) → Option RowRef → Tree → List Known → Evaluation
going known row f read = asked_from no_hosts (recipe_on (length known) row f) (λ n. or_gone (slice_get known n)) read

-- one answer on
stepped : (known : List (Option Outcome)) (row : Option RowRef) (f : Tree) (read : List Known) (s : Step) → answered known row f read ≡ s →
    going known row f read
    ≡ after_step s (counted (length known) 0) (λ n. or_gone (slice_get known n)) (λ n v. going known row f (learnt read n v))
stepped known row f read s e =
    asked_by_steps no_hosts (recipe_on (length known) row f) (λ n. or_gone (slice_get known n)) read
    ∙ ap (λ x. after_step x (counted (length known) 0) (λ n. or_gone (slice_get known n)) (λ n v. going known row f (learnt read n v))) e

-- a slot is read
read_on : (known : List (Option Outcome)) (row : Option RowRef) (f : Tree) (read : List Known) (s : ℕ) (o : Outcome) →
    answered known row f read ≡ Read s → s < length known → or_gone (slice_get known s) ≡ o →
    going known row f read ≡ after_read s o (λ v. going known row f (learnt read s v))
read_on known row f read s o e h is =
    let c = counted_at (length known) 0 s h in
    let at : slice_index (counted (length known) 0) s ≡ s = c ∙ omega arith in
    stepped known row f read (Read s) e
    ∙ ap (λ n. after_read n (or_gone (slice_get known n)) (λ v. going known row f (learnt read s v))) at
    ∙ ap (λ x. after_read s x (λ v. going known row f (learnt read s v))) is

-- ---- what is left of the evaluation

-- what is read from here on needs the same name, and comes to the same
pub record IsAsking (known : List (Option Outcome)) (row : Option RowRef) (f : Tree) (read : List Known) : Type 0 where
  pub reads : first_missing known (names_of (going known row f read).reads) ≡ first_missing known (names_of (going known row f []).reads)
  pub outcome : (going known row f read).outcome ≡ (going known row f []).outcome

pub nothing_asked : (known : List (Option Outcome)) (row : Option RowRef) (f : Tree) → IsAsking known row f []
nothing_asked known row f = record { reads = refl; outcome = refl }

-- the first of the names is known
missing_known : (known : List (Option Outcome)) (n : ℕ) (o : Outcome) (ns : List ℕ) → slice_get known n ≡ Some (Some o) → first_missing known (n ∷ ns) ≡ first_missing known ns
missing_known known n o ns e = rw e refl

-- a value is read
pub asked_more : (known : List (Option Outcome)) (row : Option RowRef) (f : Tree) (read now : List Known) (s : ℕ) (v : Value) → IsAsking known row f read →
    answered known row f read ≡ Read s → s < length known → slice_get known s ≡ Some (Some (Good v)) → now ≡ learnt read s v →
    IsAsking known row f now
asked_more known row f read now s v i e h is l =
    let step : going known row f read ≡ read_first (record { name = s; outcome = Good v }) (going known row f (learnt read s v))
    = read_on known row f read s (Good v) e h (ap or_gone is) in
    let reads : first_missing known (names_of (going known row f read).reads) ≡ first_missing known (names_of (going known row f (learnt read s v)).reads)
    = ap (λ (x : Evaluation). first_missing known (names_of x.reads)) step
    ∙ missing_known known s (Good v) (names_of (going known row f (learnt read s v)).reads) is in
    let outcome : (going known row f read).outcome ≡ (going known row f (learnt read s v)).outcome = ap (λ (x : Evaluation). x.outcome) step in
    subst (IsAsking known row f) (sym l) (record { reads = sym reads ∙ i.reads; outcome = sym outcome ∙ i.outcome })

-- it ends, and reads nothing more that isn't known
found_at : (known : List (Option Outcome)) (row : Option RowRef) (f : Tree) (read : List Known) (o : Outcome) (e : Evaluation) → IsAsking known row f read →
    going known row f read ≡ e → first_missing known (names_of e.reads) ≡ None → o ≡ e.outcome → IsFound known (on_known known row f) o
found_at known row f read o e i is none same = record {
  reads = sym i.reads ∙ ap (λ (x : Evaluation). first_missing known (names_of x.reads)) is ∙ none;
  outcome = same ∙ sym (ap (λ (x : Evaluation). x.outcome) is) ∙ i.outcome;
}

pub ends_good : (known : List (Option Outcome)) (row : Option RowRef) (f : Tree) (read : List Known) (v : Value) → IsAsking known row f read →
    answered known row f read ≡ Done v → IsFound known (on_known known row f) (Good v)
ends_good known row f read v i e = found_at known row f read (Good v) (ended (Good v)) i (stepped known row f read (Done v) e) refl refl

pub ends_bad : (known : List (Option Outcome)) (row : Option RowRef) (f : Tree) (read : List Known) (x : Fault) → IsAsking known row f read →
    answered known row f read ≡ Fail x → IsFound known (on_known known row f) (Bad x)
ends_bad known row f read x i e = found_at known row f read (Bad x) (ended (Bad x)) i (stepped known row f read (Fail x) e) refl refl

pub ends_read : (known : List (Option Outcome)) (row : Option RowRef) (f : Tree) (read : List Known) (s : ℕ) (x : Fault) → IsAsking known row f read →
    answered known row f read ≡ Read s → s < length known → slice_get known s ≡ Some (Some (Bad x)) → IsFound known (on_known known row f) (Bad x)
ends_read known row f read s x i e h is =
    found_at known row f read (Bad x) (read_first (record { name = s; outcome = Bad x }) (ended (Bad x))) i
    (read_on known row f read s (Bad x) e h (ap or_gone is)) (missing_known known s (Bad x) [] is) refl

-- a name is needed and isn't known
pub asks : (known : List (Option Outcome)) (row : Option RowRef) (f : Tree) (read : List Known) (s : ℕ) (x : Stop) → IsAsking known row f read →
    answered known row f read ≡ Read s → s < length known → IsNeed known s x → Stops known (names_of (on_known known row f).reads) x
asks known row f read s stop.NoMemory i e h need = tt
asks known row f read s (stop.Ask n) i e h need =
    let is = need.1 in
    let missing : first_missing known (s ∷ []) ≡ Some s = rw is refl in
    sym i.reads
    ∙ ap (λ (y : Evaluation). first_missing known (names_of y.reads)) (read_on known row f read s (Bad Gone) e h (ap or_gone is))
    ∙ missing ∙ ap Some (sym need.0)

-- what is asked for is a slot that isn't known
pub asks_new : (names : ℕ) (known given : List Known) (s : Step) (slot : ℕ) → IsJudged names given s → given ≡ known → s ≡ Read slot →
    IsUnknownSlot names slot known
asks_new names known given s slot new same is = subst (λ x. x) (λ i. IsJudged names (same i) (is i)) new

-- so one fewer isn't, once its value is
pub fewer_unknown : (names : ℕ) (known next : List Known) (slot : ℕ) (v : Value) → IsUnknownSlot names slot known → next ≡ learnt known slot v →
    unknown_slots names next < unknown_slots names known
fewer_unknown names known next slot v new is =
    let fewer = unknown_less names slot v known new in
    let now = ap (unknown_slots names) is in
    omega (arith, fewer, now)

-- an answer that is judged by how many names there are
pub counted_answer : (known : List (Option Outcome)) (row own : Option RowRef) (f : Tree) (read : List Known) (given s : Step) →
    s ≡ judged (length known) read given → given ≡ answer_of f own read → own ≡ row → s ≡ answered known row f read
counted_answer known row own f read given s e g o =
    e ∙ ap (judged (length known) read) (g ∙ ap (λ r. answer_of f r read) o)
    ∙ ap (λ m. judged m read (answer_of f row read)) (sym (counted_length (length known) 0))

-- the answer to what was read
pub answer_on : (known : List (Option Outcome)) (row : Option RowRef) (f : Tree) (read given : List Known) (s t : Step) → s ≡ answered known row f given → given ≡ read → s ≡ t →
    answered known row f read ≡ t
answer_on known row f read given s t e same is = ap (answered known row f) (sym same) ∙ sym e ∙ is
