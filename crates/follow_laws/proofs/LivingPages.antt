-- Pages of a world end, and no others come, as things are done to it.
use Rattle.std.proofs.Common.{◌≡◌, ℕ, ◌==◌, ◌||◌, Bool, true, false, cond, List, [], ◌∷◌, Option, Some, None, refl}
use Rattle.sig_base.specs.declared.value.Value.{Value}
use Rattle.signal_model.specs.Recipes.{Recipe}
use Rattle.signal_model.specs.Sound.{names_of}
use Rattle.signal_model.specs.Signals.{Stands, IsGone, IsCell, IsComputed, is_in, standing, without}
use Rattle.effect_model.specs.Owners.{Thing, the_signal, the_owner, the_effect, the_page, the_watcher, sets, logs, Undoing, cleans, ends, teardown_of, under}
use Rattle.effect_model.specs.Owners.{emptied, taken_out, disposal_of}
use Rattle.effect_model.specs.Bodies.{Act, BodyEvaluation, BodyResult, body_evaluation, failed_by, to_dispose, to_do, to_log, to_make, to_note, to_rewire, to_set}
use Rattle.effect_model.specs.Worlds.{Effect, Environment, Refused, World, cleaned, lives, refused, settle, tell, thing_gone}
use Rattle.effect_model.specs.Acts.{are_alike, dispose_live, dispose_thing, end_of, end_standing, host_of, or_refused, rewire_signal, rewire_standing}
use Rattle.effect_model.specs.Acts.{rewiring_refused, set_cell, set_standing, take_back, undo, undo_all, with_drop, with_new_value, with_quiet_value, with_use}
use Rattle.effect_model.specs.Batches.{Batch, abort, give_back, is_other, replaced_by, set_quietly, with_replacing}
use Rattle.effect_model.specs.Runs.{do_act, do_acts, do_result, flush, keep_reads, next_child, run_effect}
use Rattle.effect_laws.proofs.Shared.{flush_keeps}

-- so many were made, and those that live are among these
abbrev pub Within : ℕ → List ℕ → World → Type 0
Within k ps w = (w.made.pages ≡ k) × ((i : ℕ) → is_in i w.pages ≡ true → is_in i ps ≡ true)

pub at_first : (w : World) → Within w.made.pages w.pages w
at_first w = (refl, λ i h. h)

either : (a b c : Bool) → (b ≡ true → c ≡ true) → (a || b) ≡ true → (a || c) ≡ true
either true b c f h = refl
either false b c f h = f h

pub fewer : (n : ℕ) (ps : List ℕ) (i : ℕ) → is_in i (without (λ (m : ℕ). m) n ps) ≡ true → is_in i ps ≡ true
fewer n [] i h = h
fewer n (m ∷ ps) i h = go (n == m) h (fewer n ps i)
  where
    behind : (b c : Bool) → c ≡ true → (b || c) ≡ true
    behind true c h = refl
    behind false c h = h

    go : (b : Bool) → is_in i (cond b (without (λ (m : ℕ). m) n ps) (m ∷ without (λ (m : ℕ). m) n ps)) ≡ true →
        (is_in i (without (λ (m : ℕ). m) n ps) ≡ true → is_in i ps ≡ true) → (i == m || is_in i ps) ≡ true
    go true k rest = behind (i == m) (is_in i ps) (rest k)
    go false k rest = either (i == m) (is_in i (without (λ (m : ℕ). m) n ps)) (is_in i ps) rest k

standing_set : (k : ℕ) (ps : List ℕ) (env : Environment) (s : Stands) (n : ℕ) (v : Value) (w : World) → Within k ps w → Within k ps (set_standing s env n v w)
standing_set k ps env IsGone n v w h = h
standing_set k ps env (IsCell c) n v w h = go (are_alike env.slacks c.rule c.value v)
  where
    go : (b : Bool) → Within k ps (cond b w (with_new_value n v w))
    go true = h
    go false = h
standing_set k ps env (IsComputed c) n v w h = h

pub cell_set : (k : ℕ) (ps : List ℕ) (env : Environment) (n : ℕ) (v : Value) (w : World) → Within k ps w → Within k ps (set_cell env n v w)
cell_set k ps env n v w h = standing_set k ps env (standing w.signals n) n v w h

-- ---- batches

replacing_in : (k : ℕ) (ps : List ℕ) (n : ℕ) (v : Value) (o : Option Value) (w : World) → Within k ps w → Within k ps (with_replacing n v o w)
replacing_in k ps n v None w h = h
replacing_in k ps n v (Some before) w h = h

pub quietly_set : (k : ℕ) (ps : List ℕ) (env : Environment) (n : ℕ) (v : Value) (w : World) → Within k ps w → Within k ps (set_quietly env n v w)
quietly_set k ps env n v w h = replacing_in k ps n v (replaced_by env.slacks (standing w.signals n) v) w h

given_back : (k : ℕ) (ps : List ℕ) (n : ℕ) (v : Value) (w : World) → Within k ps w → Within k ps (give_back n v w)
given_back k ps n v w h = go (is_other v (standing w.signals n))
  where
    go : (b : Bool) → Within k ps (cond b (with_quiet_value n v w) w)
    go true = h
    go false = h

pub batch_aborted : (k : ℕ) (ps : List ℕ) (b : Batch) (w : World) → Within k ps w → Within k ps (abort b w)
batch_aborted k ps [] w h = h
batch_aborted k ps (p ∷ b) w h = batch_aborted k ps b (give_back p.0 p.1 w) (given_back k ps p.0 p.1 w h)

-- ---- drops, uses and ends

drop_in : (k : ℕ) (ps : List ℕ) (o : Option ℕ) (w : World) → Within k ps w → Within k ps (with_drop o w)
drop_in k ps None w h = h
drop_in k ps (Some place) w h = h

pub use_in : (k : ℕ) (ps : List ℕ) (o : Option ℕ) (w : World) → Within k ps w → Within k ps (with_use o w)
use_in k ps None w h = h
use_in k ps (Some place) w h = h

unless_refused : (k : ℕ) (ps : List ℕ) (o : Option Refused) (v w : World) → Within k ps v → Within k ps w → Within k ps (or_refused o v w)
unless_refused k ps None v w g h = g
unless_refused k ps (Some why) v w g h = h

standing_rewired : (k : ℕ) (ps : List ℕ) (s : Stands) (n : ℕ) (r : Recipe) (w : World) → Within k ps w → Within k ps (rewire_standing s n r w)
standing_rewired k ps IsGone n r w h = h
standing_rewired k ps (IsCell c) n r w h = h
standing_rewired k ps (IsComputed c) n r w h = drop_in k ps (host_of c.recipe.expression) _ (use_in k ps (host_of r.expression) _ h)

pub signal_rewired : (k : ℕ) (ps : List ℕ) (n : ℕ) (r : Recipe) (w : World) → Within k ps w → Within k ps (rewire_signal n r w)
signal_rewired k ps n r w h =
    unless_refused k ps (rewiring_refused n r w) (rewire_standing (standing w.signals n) n r w) w
    (standing_rewired k ps (standing w.signals n) n r w h) h

standing_ended : (k : ℕ) (ps : List ℕ) (s : Stands) (n : ℕ) (w : World) → Within k ps w → Within k ps (end_standing s n w)
standing_ended k ps IsGone n w h = h
standing_ended k ps (IsCell c) n w h = h
standing_ended k ps (IsComputed c) n w h = drop_in k ps (host_of c.recipe.expression) w h

thing_ended : (k : ℕ) (ps : List ℕ) (t : Thing) (w : World) → Within k ps w → Within k ps (end_of t w)
thing_ended k ps (the_signal n) w h = standing_ended k ps (standing w.signals n) n w h
thing_ended k ps (the_owner n) w h = h
thing_ended k ps (the_effect n) w h = h
thing_ended k ps (the_page n) w h = (h.0, λ i g. h.1 i (fewer n w.pages i g))
thing_ended k ps (the_watcher n) w h = h

step_undone : (k : ℕ) (ps : List ℕ) (env : Environment) (u : Undoing) (w : World) → Within k ps w → Within k ps (undo env u w)
step_undone k ps env (cleans t (sets n v)) w h = cell_set k ps env n v (tell (cleaned t (sets n v)) w) h
step_undone k ps env (cleans t (logs v)) w h = h
step_undone k ps env (ends t) w h = thing_ended k ps t w h

all_undone : (k : ℕ) (ps : List ℕ) (env : Environment) (us : List Undoing) (w : World) → Within k ps w → Within k ps (undo_all env us w)
all_undone k ps env [] w h = h
all_undone k ps env (u ∷ us) w h = all_undone k ps env us (undo env u w) (step_undone k ps env u w h)

pub thing_disposed : (k : ℕ) (ps : List ℕ) (env : Environment) (t : Thing) (w : World) → Within k ps w → Within k ps (dispose_thing env t w)
thing_disposed k ps env t w h = go (lives t w)
  where
    go : (b : Bool) → Within k ps (cond b (dispose_live env t w) (tell (refused (thing_gone t)) w))
    go true = all_undone k ps env (disposal_of t w.owned) (record w { owned = taken_out t w.owned }) h
    go false = h

act_done : (k : ℕ) (ps : List ℕ) (env : Environment) (e j : ℕ) (a : Act) (w : World) → Within k ps w → Within k ps (do_act env e j a w)
act_done k ps env e j (to_set n v) w h = cell_set k ps env n v w h
act_done k ps env e j (to_log v) w h = h
act_done k ps env e j (to_note c) w h = h
act_done k ps env e j (to_make b) w h = h
act_done k ps env e j (to_dispose t) w h = thing_disposed k ps env t w h
act_done k ps env e j (to_rewire n r) w h = signal_rewired k ps n r w h

acts_done : (k : ℕ) (ps : List ℕ) (env : Environment) (e j : ℕ) (as' : List Act) (w : World) → Within k ps w → Within k ps (do_acts env e j as' w)
acts_done k ps env e j [] w h = h
acts_done k ps env e j (a ∷ as') w h =
    acts_done k ps env e (next_child a j) as' (cond (lives (the_effect e) w) (do_act env e j a w) w) (go (lives (the_effect e) w))
  where
    go : (b : Bool) → Within k ps (cond b (do_act env e j a w) w)
    go true = act_done k ps env e j a w h
    go false = h

result_done : (k : ℕ) (ps : List ℕ) (env : Environment) (e : ℕ) (r : BodyResult) (w : World) → Within k ps w → Within k ps (do_result env e r w)
result_done k ps env e (failed_by f) w h = h
result_done k ps env e (to_do as') w h = acts_done k ps env e 1 as' w h

effect_run : (k : ℕ) (ps : List ℕ) (env : Environment) (x : Effect) (w : World) → Within k ps w → Within k ps (run_effect env x w)
effect_run k ps env x w h =
    let v : World = take_back env (the_effect x.number) w in
    let b : BodyEvaluation = body_evaluation env.hosts v.signals x.body in
    result_done k ps env x.number b.result (keep_reads x.number b.tracked (settle env (names_of b.reads) v))
    (all_undone k ps env (teardown_of (the_effect x.number) (under (the_effect x.number) w.owned))
    (record w { owned = emptied (the_effect x.number) w.owned }) h)

pub flushed : (k : ℕ) (ps : List ℕ) (env : Environment) (w : World) → Within k ps w → Within k ps (flush env w).world
flushed k ps env w h =
    flush_keeps env (Within k ps) (record { settles = λ names v g. g; runs = λ e x v there g. effect_run k ps env x v g }) 100 w h
