-- A page whose end was told doesn't live.
use Rattle.std.proofs.Common.{◌≡◌, ℕ, ◌==◌, ◌||◌, Bool, true, false, cond, List, [], ◌∷◌, ◌++◌, map, Option, Some, None, refl, sym, ◌∙◌, ap}
use Rattle.std.specs.List.{AllByRecursion}
use Rattle.sig_base.specs.declared.value.Value.{Value}
use Rattle.signal_model.specs.Recipes.{Recipe}
use Rattle.signal_model.specs.Sound.{names_of}
use Rattle.signal_model.specs.Asks.{Moment}
use Rattle.signal_model.specs.Signals.{Stands, IsGone, IsCell, IsComputed, is_in, standing, without}
use Rattle.signal_laws.proofs.Shared.{all_append, all_snoc}
use Rattle.effect_model.specs.declared.how.How.TheVariants as how
use Rattle.effect_model.specs.Owners.{Thing, the_signal, the_owner, the_effect, the_page, the_watcher, sets, logs, Undoing, cleans, ends, teardown_of, under}
use Rattle.effect_model.specs.Owners.{emptied, taken_out, disposal_of}
use Rattle.effect_model.specs.Bodies.{Act, BodyEvaluation, BodyResult, body_evaluation, failed_by, to_dispose, to_do, to_log, to_make, to_note, to_rewire, to_set}
use Rattle.effect_model.specs.Worlds.{Effect, Environment, Event, Refused, Watcher, World, body_ran, cleaned, dropped_host, failed, gone, lives, logged, made_child, noted, ran}
use Rattle.effect_model.specs.Worlds.{changed_signal, refused, settle, tell, thing_gone}
use Rattle.effect_model.specs.Acts.{are_alike, dispose_live, dispose_thing, end_of, end_standing, host_of, or_refused, rewire_signal}
use Rattle.effect_model.specs.Acts.{rewire_standing, rewiring_refused, set_cell, set_standing, take_back, told_frozen, told_of, undo, undo_all, with_drop, with_new_value, with_quiet_value, with_use}
use Rattle.effect_model.specs.Acts.{notify_of_all, without_node}
use Rattle.effect_model.specs.Batches.{Batch, abort, give_back, is_other, replaced_by, set_quietly, with_replacing}
use Rattle.effect_model.specs.Runs.{do_act, do_acts, do_result, flush, keep_reads, next_child, run_effect}
use Rattle.effect_laws.proofs.Shared.{flush_keeps}
use Rattle.follow_laws.proofs.LivingPages.{fewer}
use Rattle.follow_laws.proofs.MountedTrees.{clash}

-- where it is the end of a page, that page isn't among these
abbrev pub IsOff : List ℕ → Event → Type 0
IsOff living (gone (the_page i)) = is_in i living ≡ false
IsOff living _ = Unit {0}

-- no page lives whose end was told
abbrev pub Off : World → Type 0
Off w = AllByRecursion (IsOff w.pages) w.told

off_still : (n : ℕ) (ps : List ℕ) (e : Event) → IsOff ps e → IsOff (without (λ (m : ℕ). m) n ps) e
off_still n ps (gone (the_page i)) h = go (is_in i (without (λ (m : ℕ). m) n ps)) refl
  where
    go : (b : Bool) → is_in i (without (λ (m : ℕ). m) n ps) ≡ b → is_in i (without (λ (m : ℕ). m) n ps) ≡ false
    go true e = absurd (clash (sym (fewer n ps i e) ∙ h))
    go false e = e
off_still n ps e h = tt

all_off : (n : ℕ) (ps : List ℕ) (es : List Event) → AllByRecursion (IsOff ps) es → AllByRecursion (IsOff (without (λ (m : ℕ). m) n ps)) es
all_off n ps [] h = tt
all_off n ps (e ∷ es) h = (off_still n ps e h.0, all_off n ps es h.1)

out_off : (n : ℕ) (ps : List ℕ) → is_in n (without (λ (m : ℕ). m) n ps) ≡ false
out_off n [] = refl
out_off n (m ∷ ps) = go (n == m) refl (out_off n ps)
  where
    go : (b : Bool) → (n == m) ≡ b → is_in n (without (λ (k : ℕ). k) n ps) ≡ false → is_in n (cond b (without (λ (k : ℕ). k) n ps) (m ∷ without (λ (k : ℕ). k) n ps)) ≡ false
    go true e h = h
    go false e h = ap (λ b. b || is_in n (without (λ (k : ℕ). k) n ps)) e ∙ h

told_off : (ps : List ℕ) (xs : List Watcher) → AllByRecursion (IsOff ps) (told_of xs)
told_off ps [] = tt
told_off ps (x ∷ xs) = (tt, told_off ps xs)

frozen_off : (ps ns : List ℕ) → AllByRecursion (IsOff ps) (told_frozen ns)
frozen_off ps [] = tt
frozen_off ps (n ∷ ns) = (tt, tt)

runs_off : (ps : List ℕ) (ms : List Moment) → AllByRecursion (IsOff ps) (map ran ms)
runs_off ps [] = tt
runs_off ps (m ∷ ms) = (tt, runs_off ps ms)

pub settle_off : (env : Environment) (names : List ℕ) (w : World) → Off w → Off (settle env names w)
settle_off env names w h = all_append (IsOff w.pages) w.told (map ran _) h (runs_off w.pages _)

pub one_off : (w : World) (e : Event) → Off w → IsOff w.pages e → Off (tell e w)
one_off w e h k = all_snoc (IsOff w.pages) w.told e h k

pub notified_off : (ns : List ℕ) (w : World) → Off w → Off (notify_of_all ns w)
notified_off ns w h =
    all_append (IsOff w.pages) w.told (told_of _ ++ told_frozen _) h
    (all_append (IsOff w.pages) (told_of _) (told_frozen _) (told_off w.pages _) (frozen_off w.pages _))

quiet_value_off : (n : ℕ) (v : Value) (w : World) → Off w → Off (with_quiet_value n v w)
quiet_value_off n v w h = one_off w (changed_signal n how.Set) h tt

value_off : (n : ℕ) (v : Value) (w : World) → Off w → Off (with_new_value n v w)
value_off n v w h = notified_off (n ∷ []) (with_quiet_value n v w) (quiet_value_off n v w h)

standing_off : (env : Environment) (s : Stands) (n : ℕ) (v : Value) (w : World) → Off w → Off (set_standing s env n v w)
standing_off env IsGone n v w h = one_off w (refused (thing_gone (the_signal n))) h tt
standing_off env (IsCell c) n v w h = go (are_alike env.slacks c.rule c.value v)
  where
    go : (b : Bool) → Off (cond b w (with_new_value n v w))
    go true = h
    go false = value_off n v w h
standing_off env (IsComputed c) n v w h = h

pub set_off : (env : Environment) (n : ℕ) (v : Value) (w : World) → Off w → Off (set_cell env n v w)
set_off env n v w h = standing_off env (standing w.signals n) n v w h

-- ---- batches

replacing_off : (n : ℕ) (v : Value) (o : Option Value) (w : World) → Off w → Off (with_replacing n v o w)
replacing_off n v None w h = h
replacing_off n v (Some before) w h = quiet_value_off n v w h

pub quiet_off : (env : Environment) (n : ℕ) (v : Value) (w : World) → Off w → Off (set_quietly env n v w)
quiet_off env n v w h = replacing_off n v (replaced_by env.slacks (standing w.signals n) v) w h

back_off : (n : ℕ) (v : Value) (w : World) → Off w → Off (give_back n v w)
back_off n v w h = go (is_other v (standing w.signals n))
  where
    go : (b : Bool) → Off (cond b (with_quiet_value n v w) w)
    go true = quiet_value_off n v w h
    go false = h

pub abort_off : (b : Batch) (w : World) → Off w → Off (abort b w)
abort_off [] w h = h
abort_off (p ∷ b) w h = abort_off b (give_back p.0 p.1 w) (back_off p.0 p.1 w h)

-- ---- drops, uses and ends

drop_off : (o : Option ℕ) (w : World) → Off w → Off (with_drop o w)
drop_off None w h = h
drop_off (Some place) w h = one_off w (dropped_host place _) h tt

use_off : (o : Option ℕ) (w : World) → Off w → Off (with_use o w)
use_off None w h = h
use_off (Some place) w h = h

unless_off : (o : Option Refused) (v w : World) → Off v → Off w → Off (or_refused o v w)
unless_off None v w g h = g
unless_off (Some why) v w g h = one_off w (refused why) h tt

rewired_off : (s : Stands) (n : ℕ) (r : Recipe) (w : World) → Off w → Off (rewire_standing s n r w)
rewired_off IsGone n r w h = h
rewired_off (IsCell c) n r w h = h
rewired_off (IsComputed c) n r w h =
    drop_off (host_of c.recipe.expression) _ (use_off (host_of r.expression) _ (one_off w (changed_signal n how.Rewire) h tt))

pub rewire_off : (n : ℕ) (r : Recipe) (w : World) → Off w → Off (rewire_signal n r w)
rewire_off n r w h =
    unless_off (rewiring_refused n r w) (rewire_standing (standing w.signals n) n r w) w (rewired_off (standing w.signals n) n r w h) h

node_off : (n : ℕ) (w : World) → Off w → Off (without_node n w)
node_off n w h = one_off w (changed_signal n how.Gone) h tt

ended_off : (s : Stands) (n : ℕ) (w : World) → Off w → Off (end_standing s n w)
ended_off IsGone n w h = h
ended_off (IsCell c) n w h = node_off n w h
ended_off (IsComputed c) n w h = node_off n (with_drop (host_of c.recipe.expression) w) (drop_off (host_of c.recipe.expression) w h)

undone_off : (env : Environment) (u : Undoing) (w : World) → Off w → Off (undo env u w)
undone_off env (cleans t (sets n v)) w h = set_off env n v (tell (cleaned t (sets n v)) w) (one_off w (cleaned t (sets n v)) h tt)
undone_off env (cleans t (logs v)) w h = one_off (tell (cleaned t (logs v)) w) (logged v) (one_off w (cleaned t (logs v)) h tt) tt
undone_off env (ends (the_signal n)) w h = one_off (end_standing (standing w.signals n) n w) (gone (the_signal n)) (ended_off (standing w.signals n) n w h) tt
undone_off env (ends (the_owner n)) w h = one_off w (gone (the_owner n)) h tt
undone_off env (ends (the_effect n)) w h = one_off w (gone (the_effect n)) h tt
undone_off env (ends (the_watcher n)) w h = one_off w (gone (the_watcher n)) h tt
undone_off env (ends (the_page n)) w h = one_off (end_of (the_page n) w) (gone (the_page n)) (all_off n w.pages w.told h) (out_off n w.pages)

all_undone_off : (env : Environment) (us : List Undoing) (w : World) → Off w → Off (undo_all env us w)
all_undone_off env [] w h = h
all_undone_off env (u ∷ us) w h = all_undone_off env us (undo env u w) (undone_off env u w h)

pub dispose_off : (env : Environment) (t : Thing) (w : World) → Off w → Off (dispose_thing env t w)
dispose_off env t w h = go (lives t w)
  where
    go : (b : Bool) → Off (cond b (dispose_live env t w) (tell (refused (thing_gone t)) w))
    go true = all_undone_off env (disposal_of t w.owned) (record w { owned = taken_out t w.owned }) h
    go false = one_off w (refused (thing_gone t)) h tt

act_off : (env : Environment) (e j : ℕ) (a : Act) (w : World) → Off w → Off (do_act env e j a w)
act_off env e j (to_set n v) w h = set_off env n v w h
act_off env e j (to_log v) w h = one_off w (logged v) h tt
act_off env e j (to_note c) w h = one_off w (noted (the_effect e) c) h tt
act_off env e j (to_make b) w h = one_off w (made_child w.made.effects e j) h tt
act_off env e j (to_dispose t) w h = dispose_off env t w h
act_off env e j (to_rewire n r) w h = rewire_off n r w h

acts_off : (env : Environment) (e j : ℕ) (as' : List Act) (w : World) → Off w → Off (do_acts env e j as' w)
acts_off env e j [] w h = h
acts_off env e j (a ∷ as') w h = acts_off env e (next_child a j) as' (cond (lives (the_effect e) w) (do_act env e j a w) w) (go (lives (the_effect e) w))
  where
    go : (b : Bool) → Off (cond b (do_act env e j a w) w)
    go true = act_off env e j a w h
    go false = h

result_off : (env : Environment) (e : ℕ) (r : BodyResult) (w : World) → Off w → Off (do_result env e r w)
result_off env e (failed_by f) w h = one_off w (failed e f) h tt
result_off env e (to_do as') w h = acts_off env e 1 as' w h

effect_off : (env : Environment) (x : Effect) (w : World) → Off w → Off (run_effect env x w)
effect_off env x w h =
    let v : World = take_back env (the_effect x.number) w in
    let b : BodyEvaluation = body_evaluation env.hosts v.signals x.body in
    let s : World = settle env (names_of b.reads) v in
    result_off env x.number b.result (keep_reads x.number b.tracked s)
    (one_off s (body_ran x.number (names_of b.tracked))
    (settle_off env (names_of b.reads) v
    (all_undone_off env (teardown_of (the_effect x.number) (under (the_effect x.number) w.owned)) (record w { owned = emptied (the_effect x.number) w.owned }) h)) tt)

pub flush_off : (env : Environment) (w : World) → Off w → Off (flush env w).world
flush_off env w h = flush_keeps env Off (record { settles = λ names v g. settle_off env names v g; runs = λ e x v there g. effect_off env x v g }) 100 w h
