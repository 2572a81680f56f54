-- Cleanups are done for a run or an end alone.
use Rattle.std.proofs.Common.{◌≡◌, ℕ, ◌+◌, Bool, true, false, cond, List, [], ◌∷◌, ◌++◌, map, Option, Some, None, refl, sym, ap, ◌∙◌, subst, arith}
use Rattle.std.proofs.Common.{inl, inr, if◌then◌else◌}
use Rattle.std.proofs.lemmas.List.{append_assoc, append-nil}
use Rattle.signal_model.proofs.Shared.{tested}
use Rattle.sig_base.specs.declared.value.Value.{Value}
use Rattle.signal_model.specs.Recipes.{Recipe}
use Rattle.signal_model.specs.Signals.{Stands, IsGone, IsCell, IsComputed, standing}
use Rattle.signal_model.specs.Settling.{settled}
use Rattle.signal_model.specs.Sound.{names_of}
use Rattle.effect_model.specs.Owners.{Thing, the_signal, the_effect, same_thing, sets, logs, Owned, nothing, thing, cleanup, Undoing, cleans, ends}
use Rattle.effect_model.specs.Owners.{teardown_of, under, emptied, taken_out, disposal_of}
use Rattle.effect_model.specs.Bodies.{Act, to_set, to_log, to_note, to_make, to_dispose, to_rewire, BodyEvaluation, BodyResult, to_do, failed_by}
use Rattle.effect_model.specs.Bodies.{body_evaluation}
use Rattle.effect_model.specs.declared.how.How.TheVariants.{Set, Rewire, Gone}
use Rattle.effect_model.specs.Worlds.{Environment, Watcher, Effect, Event, ran, changed_signal, cleaned, gone, refused, Refused, thing_gone, World, tell, lives}
use Rattle.effect_model.specs.Worlds.{settle}
use Rattle.effect_model.specs.Acts.{notified_by_any, frozen_by, told_of, told_frozen, notify_of_all, with_new_value, with_quiet_value, are_alike, set_standing, host_of}
use Rattle.effect_model.specs.Acts.{with_drop}
use Rattle.effect_model.specs.Acts.{with_use, rewiring_refused, rewire_standing, or_refused, rewire_signal, end_standing, end_of, undo, undo_all}
use Rattle.effect_model.specs.Acts.{take_back, dispose_live, dispose_thing}
use Rattle.effect_model.specs.Batches.{Batch, abort, give_back, is_other, replaced_by, set_quietly, with_replacing}
use Rattle.effect_model.specs.Runs.{do_act, keep_reads, do_result, run_effect, flush}
use Rattle.effect_model.specs.Commands.{Command, cell, computed, owner, effect, page, watcher, watch, unwatch, set, set_untold, restore, tell_together, rewire, ask, log}
use Rattle.effect_model.specs.Commands.{dispose, flush_all}
use Rattle.effect_model.specs.Commands.{new_world, with_new_computed, told_if, command_refused, done_by, after_command, after_commands}
use Rattle.effect_laws.proofs.Names.{either_way}
use Rattle.effect_laws.proofs.Turns.{IsKeptByRuns, flush_keeps, acts_keep}
use Rattle.signal_model.specs.Asks.{Moment, moments}
use Rattle.effect_laws.specs.Rolls.{bit, open_after, open_cleanups}
use Rattle.effect_laws.specs.Ends.{ClosingLaw}
use Rattle.effect_laws.proofs.Trees.{same_is, same_self}

open_append : (t : Thing) (n : ℕ) (es fs : List Event) → open_cleanups t n (es ++ fs) ≡ open_cleanups t (open_cleanups t n es) fs
open_append t n [] fs = refl
open_append t n (e ∷ es) fs = open_append t (open_after t n e) es fs

-- what is open of a thing in a world
abbrev Open : Thing → World → ℕ
Open t w = open_cleanups t 0 w.told

-- a quiet step
abbrev Same : World → World → Type 0
Same v w = (t : Thing) → Open t w ≡ Open t v

runs_open : (t : Thing) (n : ℕ) (rs : List Moment) → open_cleanups t n (map ran rs) ≡ n
runs_open t n [] = refl
runs_open t n (r ∷ rs) = runs_open t n rs

settle_open : (env : Environment) (asked : List ℕ) (w : World) → Same w (settle env asked w)
settle_open env asked w t =
    let ms : List Moment = moments w.signals (settled env.hosts w.signals w.memos asked).runs in
    open_append t 0 w.told (map ran ms) ∙ runs_open t (Open t w) ms

told_open : (t : Thing) (n : ℕ) (xs : List Watcher) (fs : List Event) → open_cleanups t n (told_of xs ++ fs) ≡ open_cleanups t n fs
told_open t n [] fs = refl
told_open t n (x ∷ xs) fs = told_open t n xs fs

frozen_open : (t : Thing) (n : ℕ) (ns : List ℕ) → open_cleanups t n (told_frozen ns) ≡ n
frozen_open t n [] = refl
frozen_open t n (m ∷ ms) = refl

notify_open : (ns : List ℕ) (w : World) → Same w (notify_of_all ns w)
notify_open ns w t =
    let xs : List Watcher = notified_by_any w.signals w.memos ns w.watchers in
    open_append t 0 w.told (told_of xs ++ told_frozen (frozen_by xs))
    ∙ (told_open t (Open t w) xs (told_frozen (frozen_by xs)) ∙ frozen_open t (Open t w) (frozen_by xs))

quiet_open : (n : ℕ) (v : Value) (w : World) → Same w (with_quiet_value n v w)
quiet_open n v w t = open_append t 0 w.told (changed_signal n Set ∷ [])

set_open : (s : Stands) (env : Environment) (n : ℕ) (v : Value) (w : World) → Same w (set_standing s env n v w)
set_open IsGone env n v w t = open_append t 0 w.told _
set_open (IsCell c) env n v w t = go (are_alike env.slacks c.rule c.value v)
  where
    go : (b : Bool) → Open t (cond b w (with_new_value n v w)) ≡ Open t w
    go true = refl
    go false = notify_open (n ∷ []) (with_quiet_value n v w) t ∙ quiet_open n v w t
set_open (IsComputed c) env n v w t = refl

set_quietly_open : (env : Environment) (n : ℕ) (v : Value) (w : World) → Same w (set_quietly env n v w)
set_quietly_open env n v w t = go (replaced_by env.slacks (standing w.signals n) v)
  where
    go : (o : Option Value) → Open t (with_replacing n v o w) ≡ Open t w
    go None = refl
    go (Some before) = quiet_open n v w t

give_back_open : (n : ℕ) (v : Value) (w : World) → Same w (give_back n v w)
give_back_open n v w t = go (is_other v (standing w.signals n))
  where
    go : (b : Bool) → Open t (cond b (with_quiet_value n v w) w) ≡ Open t w
    go true = quiet_open n v w t
    go false = refl

abort_open : (b : Batch) (w : World) → Same w (abort b w)
abort_open [] w t = refl
abort_open (p ∷ b) w t = abort_open b (give_back p.0 p.1 w) t ∙ give_back_open p.0 p.1 w t

drop_open : (p : Option ℕ) (w : World) → Same w (with_drop p w)
drop_open None w t = refl
drop_open (Some k) w t = open_append t 0 w.told _

use_open : (p : Option ℕ) (w : World) → Same w (with_use p w)
use_open None w t = refl
use_open (Some k) w t = refl

rewired_open : (s : Stands) (n : ℕ) (r : Recipe) (w : World) → Same w (rewire_standing s n r w)
rewired_open IsGone n r w t = refl
rewired_open (IsCell c) n r w t = refl
rewired_open (IsComputed c) n r w t = drop_open (host_of c.recipe.expression) (with_use (host_of r.expression) _) t
    ∙ use_open (host_of r.expression) _ t ∙ open_append t 0 w.told (changed_signal n Rewire ∷ [])

unless_open : (why : Option Refused) (done w : World) → Same w done → Same w (or_refused why done w)
unless_open None done w d t = d t
unless_open (Some why) done w d t = open_append t 0 w.told _

rewire_open : (n : ℕ) (r : Recipe) (w : World) → Same w (rewire_signal n r w)
rewire_open n r w = unless_open (rewiring_refused n r w) (rewire_standing (standing w.signals n) n r w) w (rewired_open (standing w.signals n) n r w)

end_open : (h : Thing) (w : World) → Same w (end_of h w)
end_open (the_signal n) w t = go (standing w.signals n)
  where
    go : (s : Stands) → Open t (end_standing s n w) ≡ Open t w
    go IsGone = refl
    go (IsCell c) = open_append t 0 w.told (changed_signal n Gone ∷ [])
    go (IsComputed c) =
        open_append t 0 (with_drop (host_of c.recipe.expression) w).told (changed_signal n Gone ∷ []) ∙ drop_open (host_of c.recipe.expression) w t
end_open _ w t = refl

-- ---- a teardown, step by step

abbrev open_by : Thing → ℕ → List Undoing → ℕ
open_by t n [] = n
open_by t n (cleans h c ∷ us) = open_by t (n + bit (same_thing t h)) us
open_by t n (ends h ∷ us) = open_by t (if same_thing t h then 0 else n) us

undo_open : (env : Environment) (u : Undoing) (us : List Undoing) (w : World) (t : Thing) →
    open_by t (Open t (undo env u w)) us ≡ open_by t (Open t w) (u ∷ us)
undo_open env (cleans h (sets n v)) us w t =
    ap (λ k. open_by t k us) (set_open (standing w.signals n) env n v (tell (cleaned h (sets n v)) w) t
    ∙ open_append t 0 w.told (cleaned h (sets n v) ∷ []))
undo_open env (cleans h (logs v)) us w t =
    ap (λ k. open_by t k us) (open_append t 0 (w.told ++ cleaned h (logs v) ∷ []) _ ∙ open_append t 0 w.told (cleaned h (logs v) ∷ []))
undo_open env (ends h) us w t =
    ap (λ k. open_by t k us) (open_append t 0 (end_of h w).told (gone h ∷ []) ∙ ap (λ k. if same_thing t h then 0 else k) (end_open h w t))

undo_all_open : (env : Environment) (us : List Undoing) (w : World) (t : Thing) → Open t (undo_all env us w) ≡ open_by t (Open t w) us
undo_all_open env [] w t = refl
undo_all_open env (u ∷ us) w t = undo_all_open env us (undo env u w) t ∙ undo_open env u us w t

-- whatever was open, an end closes it
closed_by_end : (t : Thing) (n : ℕ) (us rest : List Undoing) → open_by t n (us ++ ends t ∷ rest) ≡ open_by t 0 rest
closed_by_end t n [] rest = ap (λ b. open_by t (cond b 0 n) rest) (same_self t)
closed_by_end t n (cleans h c ∷ us) rest = closed_by_end t (n + bit (same_thing t h)) us rest
closed_by_end t n (ends h ∷ us) rest = closed_by_end t (if same_thing t h then 0 else n) us rest

-- a teardown leaves nothing open but of its holder
closed_teardown : (t h : Thing) (o : Owned) (rest : List Undoing) → same_thing t h ≡ false → open_by t 0 (teardown_of h o ++ rest) ≡ open_by t 0 rest
closed_teardown t h nothing rest e = refl
closed_teardown t h (cleanup c earlier) rest e =
    let f : bit (same_thing t h) ≡ 0 = ap bit e in
    let k : 0 + bit (same_thing t h) ≡ 0 = omega arith in
    ap (λ n. open_by t n (teardown_of h earlier ++ rest)) k ∙ closed_teardown t h earlier rest e
closed_teardown t h (thing u made earlier) rest e =
    subst (λ us. open_by t 0 us ≡ open_by t 0 rest) (sym (append_assoc (teardown_of u made) (ends u ∷ teardown_of h earlier) rest))
    (elim (tested (same_thing t u)) [
      | inl f ↦
          let k : u ≡ t = sym (same_is t u f) in
          subst (λ x. open_by t 0 (teardown_of u made ++ (ends x ∷ (teardown_of h earlier ++ rest))) ≡ open_by t 0 rest) (sym k)
          (closed_by_end t 0 (teardown_of u made) (teardown_of h earlier ++ rest) ∙ closed_teardown t h earlier rest e)
      | inr f ↦ closed_teardown t u made (ends u ∷ (teardown_of h earlier ++ rest)) f
          ∙ (ap (λ b. open_by t (cond b 0 0) (teardown_of h earlier ++ rest)) f ∙ closed_teardown t h earlier rest e)
    ])

closed_disposal : (t h : Thing) (o : Owned) → open_by t 0 (disposal_of h o) ≡ 0
closed_disposal t h o = elim (tested (same_thing t h)) [
  | inl e ↦
      let k : h ≡ t = sym (same_is t h e) in
      subst (λ x. open_by t 0 (teardown_of h (under h o) ++ ends x ∷ []) ≡ 0) (sym k) (closed_by_end t 0 (teardown_of h (under h o)) [])
  | inr e ↦ closed_teardown t h (under h o) (ends h ∷ []) e ∙ rw e refl
]

-- ---- acts, runs and turns

-- nothing is open
abbrev Closed : World → Type 0
Closed w = (t : Thing) → Open t w ≡ 0

dispose_closed : (env : Environment) (h : Thing) (w : World) → Closed w → Closed (dispose_thing env h w)
dispose_closed env h w c t = go (lives h w)
  where
    go : (b : Bool) → Open t (cond b (dispose_live env h w) (tell (refused (thing_gone h)) w)) ≡ 0
    go true = undo_all_open env (disposal_of h w.owned) (record w { owned = taken_out h w.owned }) t
        ∙ (ap (λ n. open_by t n (disposal_of h w.owned)) (c t) ∙ closed_disposal t h w.owned)
    go false = open_append t 0 w.told _ ∙ c t

act_closed : (env : Environment) (e k : ℕ) (a : Act) (w : World) → Closed w → Closed (do_act env e k a w)
act_closed env e k (to_set n v) w c = λ t. set_open (standing w.signals n) env n v w t ∙ c t
act_closed env e k (to_log v) w c = λ t. open_append t 0 w.told _ ∙ c t
act_closed env e k (to_note x) w c = λ t. open_append t 0 w.told _ ∙ c t
act_closed env e k (to_make b) w c = λ t. open_append t 0 w.told _ ∙ c t
act_closed env e k (to_dispose u) w c = dispose_closed env u w c
act_closed env e k (to_rewire n r) w c = λ t. rewire_open n r w t ∙ c t

result_closed : (env : Environment) (e : ℕ) (r : BodyResult) (w : World) → Closed w → Closed (do_result env e r w)
result_closed env e (failed_by f) w c = λ t. open_append t 0 w.told _ ∙ c t
result_closed env e (to_do as') w c = acts_keep env Closed e (λ j a v h d. act_closed env e j a v d) 1 as' w c

-- the run closes what its own taking back has opened
run_closed : (env : Environment) (x : Effect) (w : World) → Closed w → Closed (run_effect env x w)
run_closed env x w c =
    let b : BodyEvaluation = body_evaluation env.hosts w'.signals x.body in
    result_closed env x.number b.result (keep_reads x.number b.tracked (settle env (names_of b.reads) w')) (λ t. closed b t)
  where
    e : Thing
    e = the_effect x.number

    w' : World
    w' = take_back env e w

    others : (t : Thing) → same_thing t e ≡ false → Open t w' ≡ 0
    others t f = undo_all_open env (teardown_of e (under e w.owned)) (record w { owned = emptied e w.owned }) t
        ∙ (ap (λ n. open_by t n (teardown_of e (under e w.owned))) (c t)
        ∙ (ap (open_by t 0) (sym (append-nil (teardown_of e (under e w.owned)))) ∙ closed_teardown t e (under e w.owned) [] f))

    closed : (b : BodyEvaluation) (t : Thing) → Open t (keep_reads x.number b.tracked (settle env (names_of b.reads) w')) ≡ 0
    closed b t = open_append t 0 (settle env (names_of b.reads) w').told _ ∙ go (same_thing t e) refl
      where
        go : (d : Bool) → same_thing t e ≡ d → (if d then 0 else Open t (settle env (names_of b.reads) w')) ≡ 0
        go true f = refl
        go false f = settle_open env (names_of b.reads) w' t ∙ others t f

turns_closed : (env : Environment) → IsKeptByRuns env Closed
turns_closed env = record { settles = λ names w c t. settle_open env names w t ∙ c t; runs = λ e x w h c. run_closed env x w c }

-- ---- commands

told_closed : (b : Bool) (w : World) → Closed w → Closed (told_if b w)
told_closed true w c = λ t. open_append t 0 w.told _ ∙ c t
told_closed false w c = c

done_closed : (env : Environment) (w : World) (c : Command) → Closed w → Closed (done_by env c w)
done_closed env w (cell v rule inside) c = c
done_closed env w (computed r inside) c = λ t. use_open (host_of r.expression) (with_new_computed r inside w) t ∙ c t
done_closed env w (owner inside) c = c
done_closed env w (effect b inside) c = c
done_closed env w (page inside) c = c
done_closed env w (watcher tries) c = c
done_closed env w (watch n names) c = c
done_closed env w (unwatch n m) c = c
done_closed env w (set n v) c = λ t. set_open (standing w.signals n) env n v w t ∙ c t
done_closed env w (set_untold n v) c = λ t. set_quietly_open env n v w t ∙ c t
done_closed env w (restore b) c = λ t. abort_open b w t ∙ c t
done_closed env w (tell_together ns) c = λ t. notify_open ns w t ∙ c t
done_closed env w (rewire n r) c = λ t. rewire_open n r w t ∙ c t
done_closed env w (ask names) c = λ t. settle_open env names w t ∙ c t
done_closed env w (log v) c = λ t. open_append t 0 w.told _ ∙ c t
done_closed env w (dispose h) c = dispose_closed env h w c
done_closed env w flush_all c = told_closed (flush env w).refused (flush env w).world (flush_keeps env Closed (turns_closed env) 100 w c)

step_closed : (env : Environment) (w : World) (c : Command) → Closed w → Closed (after_command env w c)
step_closed env w x c =
    either_way Closed (command_refused x w) (done_by env x w) w (λ h. done_closed env w x c) (λ r t. open_append t 0 w.told _ ∙ c t)

steps_closed : (env : Environment) (cs : List Command) (w : World) → Closed w → Closed (after_commands env w cs)
steps_closed env [] w c = c
steps_closed env (x ∷ xs) w c = steps_closed env xs (after_command env w x) (step_closed env w x c)

pub closing_law : ClosingLaw
closing_law env n cs t = steps_closed env cs (new_world n) (λ u. refl) t
