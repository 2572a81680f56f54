-- All that a world's commands do keeps the rows of its cells good.
use Rattle.std.proofs.Common.{ℕ, zero, suc, ◌+◌, ◌==◌, Bool, true, false, cond, List, [], ◌∷◌, ◌++◌, length, Option, Some, None}
use Rattle.std.specs.List.{AllByRecursion, slice_index}
use Rattle.std.specs.Map.{keys_of}
use Rattle.sig_base.specs.declared.value.Known.{Known}
use Rattle.sig_base.specs.declared.value.Outcome.{Outcome}
use Rattle.sig_base.specs.declared.value.Outcome.TheVariants.{Good, Bad}
use Rattle.sig_base.specs.declared.value.Value.{Value}
use Rattle.sig_base.specs.declared.value.Value.TheVariants as value
use Rattle.sig_formula.specs.declared.evaluate.FormulaStep.{FormulaStep}
use Rattle.sig_formula.specs.declared.evaluate.FormulaStep.TheVariants.{Ask, End}
use Rattle.sig_formula.specs.Evaluation.{formula_step}
use Rattle.sig_formula.specs.Trees.{Tree}
use Rattle.signal_model.specs.Recipes.{Hosts, Recipe}
use Rattle.signal_model.specs.Signals.{Cell, Signals, Stands, IsGone, IsCell, IsComputed, changed, is_in, standing, without}
use Rattle.signal_model.specs.Changes.{after_rewiring, with_recipe}
use Rattle.signal_model.specs.Sound.{names_of}
use Rattle.signal_model.specs.Values.{learnt, unknown_slots, value_of}
use Rattle.signal_laws.proofs.Shared.{all_append, all_snoc}
use Rattle.effect_model.specs.declared.how.How.TheVariants.{Rewire}
use Rattle.effect_model.specs.declared.plain.Plain.{Plain}
use Rattle.effect_model.specs.declared.plain.Plain.TheVariants as p
use Rattle.effect_model.specs.Owners.{Thing, the_signal, the_owner, the_effect, the_page, the_watcher, Cleanup, sets, logs, nothing, cleanup, alone, Undoing, cleans, ends}
use Rattle.effect_model.specs.Owners.{disposal_of, emptied, taken_out, teardown_of, under}
use Rattle.effect_model.specs.Bodies.{Act, to_set, to_log, to_note, to_make, to_dispose, to_rewire, Body, BodyStep, reads, acts, fails, BodyEvaluation, BodyResult}
use Rattle.effect_model.specs.Bodies.{to_do, failed_by, Statements, no_more, plain, when, effect, rewire, followed_by, one_first}
use Rattle.effect_model.specs.Bodies.{and_then, with_answer, if_scalar, guarded, plain_step, body_step, after_body_read, after_body_step, with_known, body_asked_within}
use Rattle.effect_model.specs.Bodies.{body_evaluation}
use Rattle.effect_model.specs.Worlds.{Environment, Effect, Refused, thing_gone, changed_signal, cleaned, refused, World, tell, lives, settle, at_rest}
use Rattle.effect_model.specs.Acts.{are_alike, with_quiet_value, with_new_value, set_standing, set_cell, host_of, with_drop, with_use, or_refused, rewiring_refused, rewire_standing}
use Rattle.effect_model.specs.Acts.{rewire_signal, without_node, end_standing, end_of, do_cleanup, undo, undo_all, take_back, dispose_live, dispose_thing}
use Rattle.effect_model.specs.Batches.{Batch, abort, give_back, is_other, joined, joined_by, joined_replaced, replaced_by, set_quietly, with_replacing}
use Rattle.effect_model.specs.Runs.{do_act, do_acts, next_child, keep_reads, do_result, run_effect, flush}
use Rattle.effect_model.specs.Commands.{with_new_cell}
use Rattle.effect_laws.proofs.Shared.{IsKeptByRuns, flush_keeps}
use Rattle.sig_host.specs.Loans.{IsGood}
use Rattle.page_laws.proofs.Owned.{AreGoodOwned, IsGoodCleanup, IsGoodUndoing, disposal_good, emptied_good, listed_good, made_good, put_good, taken_good, undoings_good}
use Rattle.page_laws.proofs.Values.{AreGoodCells, IsGoodStanding, standing_good}

-- the rows of cells are good, and those that cleanups will set
abbrev pub IsGoodWorld : World → Type 0
IsGoodWorld w = AreGoodCells w.signals.cells × AreGoodOwned w.owned

-- ---- cells

set_good : (n : ℕ) (v : Value) (cs : List Cell) → IsGood v → AreGoodCells cs → AreGoodCells (changed (λ (c : Cell). c.name) n (λ c. record c { value = v }) cs)
set_good n v [] g h = tt
set_good n v (c ∷ cs) g h = (go (n == c.name), set_good n v cs g h.1)
  where
    go : (b : Bool) → IsGood (cond b (record c { value = v }) c).value
    go true = g
    go false = h.0

without_good : (n : ℕ) (cs : List Cell) → AreGoodCells cs → AreGoodCells (without (λ (c : Cell). c.name) n cs)
without_good n [] h = tt
without_good n (c ∷ cs) h = go (n == c.name) (without_good n cs h.1)
  where
    go : (b : Bool) → AreGoodCells (without (λ (c : Cell). c.name) n cs) →
        AreGoodCells (cond b (without (λ (c : Cell). c.name) n cs) (c ∷ without (λ (c : Cell). c.name) n cs))
    go true rest = rest
    go false rest = (h.0, rest)

-- ---- changes of a world

quiet_value_good : (n : ℕ) (v : Value) (w : World) → IsGood v → IsGoodWorld w → IsGoodWorld (with_quiet_value n v w)
quiet_value_good n v w g h = (set_good n v w.signals.cells g h.0, h.1)

standing_set : (env : Environment) (s : Stands) (n : ℕ) (v : Value) (w : World) → IsGood v → IsGoodWorld w → IsGoodWorld (set_standing s env n v w)
standing_set env IsGone n v w g h = h
standing_set env (IsCell c) n v w g h = go (are_alike env.slacks c.rule c.value v)
  where
    go : (b : Bool) → IsGoodWorld (cond b w (with_new_value n v w))
    go true = h
    go false = quiet_value_good n v w g h
standing_set env (IsComputed c) n v w g h = h

pub cell_set : (env : Environment) (n : ℕ) (v : Value) (w : World) → IsGood v → IsGoodWorld w → IsGoodWorld (set_cell env n v w)
cell_set env n v w g h = standing_set env (standing w.signals n) n v w g h

-- ---- batches

-- the values of a batch as it began are good
abbrev pub AreGoodHeld : Batch → Type 0
AreGoodHeld b = AllByRecursion (λ (p : ℕ × Value). IsGood p.1) b

-- so it is where one is open
abbrev pub IsGoodBatch : Option Batch → Type 0
IsGoodBatch None = Unit {0}
IsGoodBatch (Some b) = AreGoodHeld b

pub quietly_set : (env : Environment) (n : ℕ) (v : Value) (w : World) → IsGood v → IsGoodWorld w → IsGoodWorld (set_quietly env n v w)
quietly_set env n v w g h = go (replaced_by env.slacks (standing w.signals n) v)
  where
    go : (o : Option Value) → IsGoodWorld (with_replacing n v o w)
    go None = h
    go (Some before) = quiet_value_good n v w g h

joined_good : (n : ℕ) (v : Value) (b : Batch) → IsGood v → AreGoodHeld b → AreGoodHeld (joined n v b)
joined_good n v b g h = go (is_in n (keys_of b))
  where
    go : (d : Bool) → AreGoodHeld (cond d b (b ++ (n, v) ∷ []))
    go true = h
    go false = all_snoc (λ (p : ℕ × Value). IsGood p.1) b (n, v) h g

pub batch_good : (slacks : List ℕ) (n : ℕ) (v : Value) (b : Batch) (w : World) → IsGoodWorld w → AreGoodHeld b →
    AreGoodHeld (joined_by slacks (standing w.signals n) n v b)
batch_good slacks n v b w h held = go (standing w.signals n) (standing_good w.signals n h.0)
  where
    by : (c : Cell) → IsGood c.value → (d : Bool) → AreGoodHeld (joined_replaced n (cond d None (Some c.value)) b)
    by c g true = held
    by c g false = joined_good n c.value b g held

    go : (s : Stands) → IsGoodStanding s → AreGoodHeld (joined_by slacks s n v b)
    go IsGone g = held
    go (IsCell c) g = by c g (are_alike slacks c.rule c.value v)
    go (IsComputed c) g = held

given_back : (n : ℕ) (v : Value) (w : World) → IsGood v → IsGoodWorld w → IsGoodWorld (give_back n v w)
given_back n v w g h = go (is_other v (standing w.signals n))
  where
    go : (d : Bool) → IsGoodWorld (cond d (with_quiet_value n v w) w)
    go true = quiet_value_good n v w g h
    go false = h

pub batch_aborted : (b : Batch) (w : World) → AreGoodHeld b → IsGoodWorld w → IsGoodWorld (abort b w)
batch_aborted [] w g h = h
batch_aborted (p ∷ b) w g h = batch_aborted b (give_back p.0 p.1 w) g.1 (given_back p.0 p.1 w g.0 h)

-- ---- drops, uses and ends

drop_good : (o : Option ℕ) (w : World) → IsGoodWorld w → IsGoodWorld (with_drop o w)
drop_good None w h = h
drop_good (Some place) w h = h

pub use_good : (o : Option ℕ) (w : World) → IsGoodWorld w → IsGoodWorld (with_use o w)
use_good None w h = h
use_good (Some place) w h = h

unless_refused : (o : Option Refused) (v w : World) → IsGoodWorld v → IsGoodWorld w → IsGoodWorld (or_refused o v w)
unless_refused None v w g h = g
unless_refused (Some why) v w g h = h

standing_rewired : (s : Stands) (n : ℕ) (r : Recipe) (w : World) → IsGoodWorld w → IsGoodWorld (rewire_standing s n r w)
standing_rewired IsGone n r w h = h
standing_rewired (IsCell c) n r w h = h
standing_rewired (IsComputed c) n r w h =
    let v : World = tell (changed_signal n Rewire) (record w { signals = with_recipe w.signals n r; memos = after_rewiring w.memos n }) in
    drop_good (host_of c.recipe.expression) (with_use (host_of r.expression) v) (use_good (host_of r.expression) v h)

pub signal_rewired : (n : ℕ) (r : Recipe) (w : World) → IsGoodWorld w → IsGoodWorld (rewire_signal n r w)
signal_rewired n r w h =
    unless_refused (rewiring_refused n r w) (rewire_standing (standing w.signals n) n r w) w (standing_rewired (standing w.signals n) n r w h) h

node_ended : (n : ℕ) (w : World) → IsGoodWorld w → IsGoodWorld (without_node n w)
node_ended n w h = (without_good n w.signals.cells h.0, h.1)

standing_ended : (s : Stands) (n : ℕ) (w : World) → IsGoodWorld w → IsGoodWorld (end_standing s n w)
standing_ended IsGone n w h = h
standing_ended (IsCell c) n w h = node_ended n w h
standing_ended (IsComputed c) n w h = node_ended n (with_drop (host_of c.recipe.expression) w) (drop_good (host_of c.recipe.expression) w h)

thing_ended : (t : Thing) (w : World) → IsGoodWorld w → IsGoodWorld (end_of t w)
thing_ended (the_signal n) w h = standing_ended (standing w.signals n) n w h
thing_ended (the_owner n) w h = h
thing_ended (the_effect n) w h = h
thing_ended (the_page n) w h = h
thing_ended (the_watcher n) w h = h

cleanup_done : (env : Environment) (c : Cleanup) (w : World) → IsGoodCleanup c → IsGoodWorld w → IsGoodWorld (do_cleanup env c w)
cleanup_done env (sets n v) w g h = cell_set env n v w g h
cleanup_done env (logs v) w g h = h

step_undone : (env : Environment) (u : Undoing) (w : World) → IsGoodUndoing u → IsGoodWorld w → IsGoodWorld (undo env u w)
step_undone env (cleans t c) w g h = cleanup_done env c (tell (cleaned t c) w) g h
step_undone env (ends t) w g h = thing_ended t w h

all_undone : (env : Environment) (us : List Undoing) (w : World) → AllByRecursion IsGoodUndoing us → IsGoodWorld w → IsGoodWorld (undo_all env us w)
all_undone env [] w g h = h
all_undone env (u ∷ us) w g h = all_undone env us (undo env u w) g.1 (step_undone env u w g.0 h)

taken_back : (env : Environment) (t : Thing) (w : World) → IsGoodWorld w → IsGoodWorld (take_back env t w)
taken_back env t w h =
    all_undone env (teardown_of t (under t w.owned)) (record w { owned = emptied t w.owned }) (undoings_good t w.owned h.1) (h.0, emptied_good t w.owned h.1)

pub thing_disposed : (env : Environment) (t : Thing) (w : World) → IsGoodWorld w → IsGoodWorld (dispose_thing env t w)
thing_disposed env t w h = go (lives t w)
  where
    go : (b : Bool) → IsGoodWorld (cond b (dispose_live env t w) (tell (refused (thing_gone t)) w))
    go true =
        all_undone env (disposal_of t w.owned) (record w { owned = taken_out t w.owned }) (disposal_good t w.owned h.1) (h.0, taken_good t w.owned h.1)
    go false = h

-- ---- what bodies want done

-- what is set is a good value
abbrev pub IsGoodAct : Act → Type 0
IsGoodAct (to_set n v) = IsGood v
IsGoodAct (to_note c) = IsGoodCleanup c
IsGoodAct _ = Unit {0}

abbrev IsGoodBodyStep : BodyStep → Type 0
IsGoodBodyStep (acts as') = AllByRecursion IsGoodAct as'
IsGoodBodyStep _ = Unit {0}

followed_good : (as' : List Act) (s : BodyStep) → AllByRecursion IsGoodAct as' → IsGoodBodyStep s → IsGoodBodyStep (followed_by as' s)
followed_good as' (reads s tracked) g h = tt
followed_good as' (acts bs) g h = all_append IsGoodAct as' bs g h
followed_good as' (fails e) g h = tt

first_good : (a : Act) (s : BodyStep) → IsGoodAct a → IsGoodBodyStep s → IsGoodBodyStep (one_first a s)
first_good a s g h = followed_good (a ∷ []) s (g, tt) h

then_good : (s rest : BodyStep) → IsGoodBodyStep s → IsGoodBodyStep rest → IsGoodBodyStep (and_then s rest)
then_good (reads s tracked) rest g h = tt
then_good (acts as') rest g h = followed_good as' rest g h
then_good (fails e) rest g h = tt

answer_good : (s : FormulaStep) (go : Value → BodyStep) → ((v : Value) → IsGoodBodyStep (go v)) → IsGoodBodyStep (with_answer s go)
answer_good (Ask s tracked) go h = tt
answer_good (End (Good v)) go h = h v
answer_good (End (Bad e)) go h = tt

-- what is set is no rows
scalar_set : (n : ℕ) (v : Value) → IsGoodBodyStep (if_scalar v (acts (to_set n v ∷ [])))
scalar_set n (value.Rows t) = tt
scalar_set n (value.Bool b) = (tt, tt)
scalar_set n (value.Int i) = (tt, tt)
scalar_set n (value.Text t) = (tt, tt)

scalar_noted : (n : ℕ) (v : Value) → IsGoodBodyStep (if_scalar v (acts (to_note (sets n v) ∷ [])))
scalar_noted n (value.Rows t) = tt
scalar_noted n (value.Bool b) = (tt, tt)
scalar_noted n (value.Int i) = (tt, tt)
scalar_noted n (value.Text t) = (tt, tt)

plain_good : (a : Plain ℕ Thing Tree) (ts us : List Known) → IsGoodBodyStep (plain_step a ts us)
plain_good (p.Set n f) ts us = answer_good (formula_step true f None ts us) (λ v. if_scalar v (acts (to_set n v ∷ []))) (scalar_set n)
plain_good (p.Log f) ts us = answer_good (formula_step true f None ts us) (λ v. acts (to_log v ∷ [])) (λ v. (tt, tt))
plain_good (p.CleanupSet n f) ts us = answer_good (formula_step true f None ts us) (λ v. if_scalar v (acts (to_note (sets n v) ∷ []))) (scalar_noted n)
plain_good (p.CleanupLog f) ts us = answer_good (formula_step true f None ts us) (λ v. acts (to_note (logs v) ∷ [])) (λ v. (tt, tt))
plain_good _ ts us = (tt, tt)

guarded_good : (v : Value) (s rest : BodyStep) → IsGoodBodyStep s → IsGoodBodyStep rest → IsGoodBodyStep (guarded v s rest)
guarded_good (value.Bool true) s rest g h = then_good s rest g h
guarded_good (value.Bool false) s rest g h = h
guarded_good (value.Int n) s rest g h = tt
guarded_good (value.Text t) s rest g h = tt
guarded_good (value.Rows t) s rest g h = tt

statements_good : (ss : Statements) (ts us : List Known) → IsGoodBodyStep (body_step ss ts us)
statements_good no_more ts us = tt
statements_good (plain a rest) ts us = then_good (plain_step a ts us) (body_step rest ts us) (plain_good a ts us) (statements_good rest ts us)
statements_good (when f inner rest) ts us =
    answer_good (formula_step true f None ts us) (λ v. guarded v (body_step inner ts us) (body_step rest ts us))
    (λ v. guarded_good v (body_step inner ts us) (body_step rest ts us) (statements_good inner ts us) (statements_good rest ts us))
statements_good (effect inner names rest) ts us =
    first_good (to_make (record { statements = inner; names = names })) (body_step rest ts us) tt (statements_good rest ts us)
statements_good (rewire n r rest) ts us = first_good (to_rewire n r) (body_step rest ts us) tt (statements_good rest ts us)

abbrev pub IsGoodResult : BodyResult → Type 0
IsGoodResult (to_do as') = AllByRecursion IsGoodAct as'
IsGoodResult (failed_by e) = Unit {0}

read_good : (tracked : Bool) (m : ℕ) (o : Outcome) (go : Value → BodyEvaluation) → ((v : Value) → IsGoodResult (go v).result) →
    IsGoodResult (after_body_read tracked m o go).result
read_good tracked m (Bad e) go h = tt
read_good tracked m (Good v) go h = h v

step_good : (s : BodyStep) (name : ℕ → ℕ) (source : ℕ → Outcome) (go : ℕ → Bool → Value → BodyEvaluation) → IsGoodBodyStep s →
    ((n : ℕ) (tracked : Bool) (v : Value) → IsGoodResult (go n tracked v).result) → IsGoodResult (after_body_step s name source go).result
step_good (acts as') name source go g h = g
step_good (fails e) name source go g h = tt
step_good (reads s tracked) name source go g h = read_good tracked (name s) (source (name s)) (go s tracked) (h s tracked)

known_good : (tracked : Bool) (s : ℕ) (v : Value) (go : List Known → List Known → BodyEvaluation) (ts us : List Known) →
    ((ts us : List Known) → IsGoodResult (go ts us).result) → IsGoodResult (with_known tracked s v go ts us).result
known_good true s v go ts us h = h (learnt ts s v) us
known_good false s v go ts us h = h ts (learnt us s v)

asked_good : (turns : ℕ) (b : Body) (source : ℕ → Outcome) (ts us : List Known) → IsGoodResult (body_asked_within turns b source ts us).result
asked_good zero b source ts us = tt
asked_good (suc turns) b source ts us =
    step_good (body_step b.statements ts us) (λ s. slice_index b.names s) source (λ s tracked v. with_known tracked s v (body_asked_within turns b source) ts us)
    (statements_good b.statements ts us)
    (λ s tracked v. known_good tracked s v (body_asked_within turns b source) ts us (asked_good turns b source))

-- what a body comes to
pub body_good : (hosts : Hosts) (w : Signals) (b : Body) → IsGoodResult (body_evaluation hosts w b).result
body_good hosts w b =
    asked_good (suc (unknown_slots (length b.names) [] + unknown_slots (length b.names) [])) b (λ m. value_of hosts w m []) [] []

-- ---- runs and flushes

act_done : (env : Environment) (e k : ℕ) (a : Act) (w : World) → IsGoodAct a → IsGoodWorld w → IsGoodWorld (do_act env e k a w)
act_done env e k (to_set n v) w g h = cell_set env n v w g h
act_done env e k (to_log v) w g h = h
act_done env e k (to_note c) w g h = (h.0, put_good (the_effect e) (cleanup c nothing) w.owned (g, tt) h.1)
act_done env e k (to_make b) w g h = (h.0, put_good (the_effect e) (alone (the_effect w.made.effects)) w.owned (tt, tt) h.1)
act_done env e k (to_dispose t) w g h = thing_disposed env t w h
act_done env e k (to_rewire n r) w g h = signal_rewired n r w h

acts_done : (env : Environment) (e k : ℕ) (as' : List Act) (w : World) → AllByRecursion IsGoodAct as' → IsGoodWorld w → IsGoodWorld (do_acts env e k as' w)
acts_done env e k [] w g h = h
acts_done env e k (a ∷ as') w g h =
    acts_done env e (next_child a k) as' (cond (lives (the_effect e) w) (do_act env e k a w) w) g.1 (go (lives (the_effect e) w))
  where
    go : (b : Bool) → IsGoodWorld (cond b (do_act env e k a w) w)
    go true = act_done env e k a w g.0 h
    go false = h

result_done : (env : Environment) (e : ℕ) (r : BodyResult) (w : World) → IsGoodResult r → IsGoodWorld w → IsGoodWorld (do_result env e r w)
result_done env e (failed_by f) w g h = h
result_done env e (to_do as') w g h = acts_done env e 1 as' w g h

effect_run : (env : Environment) (x : Effect) (w : World) → IsGoodWorld w → IsGoodWorld (run_effect env x w)
effect_run env x w h =
    let v : World = take_back env (the_effect x.number) w in
    let b : BodyEvaluation = body_evaluation env.hosts v.signals x.body in
    result_done env x.number b.result (keep_reads x.number b.tracked (settle env (names_of b.reads) v)) (body_good env.hosts v.signals x.body) (taken_back env (the_effect x.number) w h)

runs_keep : (env : Environment) → IsKeptByRuns env IsGoodWorld
runs_keep env = record { settles = λ names w h. h; runs = λ e x w there h. effect_run env x w h }

pub flushed_good : (env : Environment) (w : World) → IsGoodWorld w → IsGoodWorld (flush env w).world
flushed_good env w h = flush_keeps env IsGoodWorld (runs_keep env) 100 w h

-- at rest too
pub rest_good : (w : World) → IsGoodWorld w → IsGoodWorld (at_rest w)
rest_good w h = (h.0, listed_good w.owned h.1)

-- ---- making

pub cell_made : (v : Value) (rule inside : Option ℕ) (w : World) → IsGood v → IsGoodWorld w → IsGoodWorld (with_new_cell v rule inside w)
cell_made v rule inside w g h =
    (all_snoc (λ (c : Cell). IsGood c.value) w.signals.cells (record { name = w.made.signals; value = v; rule = rule }) h.0 g, made_good inside (the_signal w.made.signals) w.owned h.1)
