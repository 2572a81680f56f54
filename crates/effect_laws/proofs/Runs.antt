-- Runs of effects, turns and a flush keep the ledger.
use Rattle.std.proofs.Common.{◌≡◌, ℕ, ◌+◌, ◌≤◌, ◌==◌, Bool, false, List, [], Some, None, refl, sym, ap, subst, arith}
use Rattle.std.proofs.lemmas.Bool.{eq-eqb}
use Rattle.signal_model.specs.Values.{Seen}
use Rattle.signal_model.specs.Sound.{names_of}
use Rattle.effect_model.specs.Owners.{Thing, the_effect, same_thing, Cleanup, Owned, teardown_of, under, emptied, put_under, alone}
use Rattle.effect_model.specs.Bodies.{Body, Act, to_set, to_log, to_note, to_make, to_dispose, to_rewire, BodyEvaluation, BodyResult, to_do}
use Rattle.effect_model.specs.Bodies.{failed_by, body_evaluation}
use Rattle.effect_model.specs.Worlds.{Environment, Effect, logged, body_ran, failed, made_child, World, tell, effect_at, effect_numbers, settle}
use Rattle.effect_model.specs.Acts.{take_back}
use Rattle.effect_model.specs.Runs.{with_effect, make_child, do_act, keep_reads, do_result, run_body, run_effect, flush}
use Rattle.effect_laws.proofs.Turns.{flush_keeps, acts_keep}
use Rattle.effect_laws.specs.Rolls.{bit, times_in, roll_of, alive, times, found, waiting_under}
use Rattle.effect_laws.proofs.Trees.{found_least, found_emptied, none_emptied}
use Rattle.effect_laws.proofs.Ledgers.{made_thing, noted_told, body_told}
use Rattle.effect_laws.proofs.Names.{names_changed, lives_alive, effect_counted}
use Rattle.effect_laws.proofs.Steps.{Tidy, same_roll, tell_tidy, settle_tidy, set_tidy, rewire_signal_tidy, dispose_tidy, take_back_tidy}
use Rattle.effect_laws.proofs.Steps.{undo_all_owned}
use Rattle.effect_laws.proofs.Creations.{not_below_self, put_below, making, more_effects, names_more}

-- a live effect stands among what is owned
pub effect_there : (w : World) (n : ℕ) → Tidy w [] → 1 ≤ alive (the_effect n) (roll_of w) → 1 ≤ times (the_effect n) w.owned
effect_there w n t h = let a : alive (the_effect n) (roll_of w) ≤ times (the_effect n) w.owned + 0 = t.effects n in omega arith

-- an effect is made
pub with_effect_roll : (x : Effect) (w : World) (s : Thing) →
    alive s (roll_of (with_effect x w)) ≡ alive s (roll_of w) + bit (same_thing s (the_effect x.number))
with_effect_roll x w (the_effect n) = names_more (λ (x : Effect). x.number) w.effects x n
with_effect_roll x w _ = omega arith

child_tidy : (e k : ℕ) (b : Body) (w : World) → Tidy w [] → 1 ≤ alive (the_effect e) (roll_of w) → Tidy (make_child e k b w) []
child_tidy e k b w t there =
    let c : ℕ = w.made.effects in
    let x : Effect = record { number = c; body = b; kept = None } in
    let o : Owned = put_under (the_effect e) (alone (the_effect c)) w.owned in
    let w' : World = with_effect x (record w { owned = o }) in
    let t' : Tidy w' [] = made_thing (roll_of w) (roll_of w') w.owned o w.made w'.made w.told (the_effect c)
    (making (roll_of w) (roll_of w') w.owned o w.made w'.made (the_effect c) (not_below_self c) (with_effect_roll x w) (more_effects w.made)
    (put_below (roll_of w) w.owned w.made w.told (the_effect e) (the_effect c) (effect_there w e t there) t)) t in
    let own : alive (the_effect c) (roll_of w') ≡ alive (the_effect c) (roll_of w) + bit (c == c) = with_effect_roll x w (the_effect c) in
    let parent : alive (the_effect e) (roll_of w') ≡ alive (the_effect e) (roll_of w) + bit (e == c) = with_effect_roll x w (the_effect e) in
    let one : bit (c == c) ≡ 1 = ap bit (eq-eqb c c refl) in
    tell_tidy w' [] (made_child c e k) (omega arith, (omega arith, tt)) t'

pub act_tidy : (env : Environment) (e k : ℕ) (a : Act) (w : World) → 1 ≤ alive (the_effect e) (roll_of w) → Tidy w [] → Tidy (do_act env e k a w) []
act_tidy env e k (to_set n v) w h t = set_tidy env n v w [] t
act_tidy env e k (to_log v) w h t = tell_tidy w [] (logged v) tt t
act_tidy env e k (to_note c) w h t = noted_told (roll_of w) w.owned w.made w.told (the_effect e) c (effect_there w e t h) t
act_tidy env e k (to_make b) w h t = child_tidy e k b w t h
act_tidy env e k (to_dispose u) w h t = dispose_tidy env u w t
act_tidy env e k (to_rewire n r) w h t = rewire_signal_tidy n r w [] t

-- what the effect keeps doesn't count
keep_roll : (e : ℕ) (ss : List Seen) (w : World) → roll_of (keep_reads e ss w) ≡ roll_of w
keep_roll e ss w = (λ i. record (roll_of w) {
  effects =
      names_changed (λ (x : Effect). x.number) e (λ x. record x { kept = Some ss }) (λ x. refl) w.effects i;
})

result_tidy : (env : Environment) (e : ℕ) (r : BodyResult) (w : World) → 1 ≤ alive (the_effect e) (roll_of w) → Tidy w [] →
    Tidy (do_result env e r w) []
result_tidy env e (failed_by f) w h t = tell_tidy w [] (failed e f) (h, tt) t
result_tidy env e (to_do as') w h t =
    acts_keep env (λ v. Tidy v []) e (λ j a v l u. act_tidy env e j a v (lives_alive (the_effect e) v l) u) 1 as' w t

pub body_tidy : (env : Environment) (e : ℕ) (b : BodyEvaluation) (w : World) → 1 ≤ alive (the_effect e) (roll_of w) →
    ((p : Cleanup → Bool) → waiting_under false (the_effect e) p w.owned ≡ 0) → Tidy w [] →
    Tidy (run_body env e b w) []
body_tidy env e b w h clear t =
    let w' : World = settle env (names_of b.reads) w in
    let t' : Tidy w' [] = settle_tidy env (names_of b.reads) w [] t in
    let told : Tidy (tell (body_ran e (names_of b.tracked)) w') [] =
    body_told (roll_of w') w'.owned w'.made w'.told e (names_of b.tracked) h clear t' in
    result_tidy env e b.result (keep_reads e b.tracked w') (subst (λ r. 1 ≤ alive (the_effect e) r) (sym (keep_roll e b.tracked w')) h)
    (same_roll (tell (body_ran e (names_of b.tracked)) w') (keep_reads e b.tracked w') [] (keep_roll e b.tracked w') told)

-- one run
pub run_tidy : (env : Environment) (x : Effect) (w : World) → 1 ≤ alive (the_effect x.number) (roll_of w) → Tidy w [] → Tidy (run_effect env x w) []
run_tidy env x w h t =
    let e : Thing = the_effect x.number in
    let there : 1 ≤ times e w.owned = effect_there w x.number t h in
    let w' : World = take_back env e w in
    let t' : Tidy w' [] = take_back_tidy env e w there t in
    let owned : w'.owned ≡ emptied e w.owned = undo_all_owned env (teardown_of e (under e w.owned)) (record w { owned = emptied e w.owned }) in
    let still : 1 ≤ times e w'.owned =
    subst (λ o. 1 ≤ times e o) (sym owned) (let a : 1 ≤ found e w.owned = found_least e w.owned there in
    let b : found e w.owned ≤ times e (emptied e w.owned) = found_emptied e w.owned in omega arith) in
    let live : 1 ≤ alive e (roll_of w') = (let a : times e w'.owned + 0 ≤ alive e (roll_of w') = t'.held e in omega arith) in
    body_tidy env x.number (body_evaluation env.hosts w'.signals x.body) w' live
    (λ p. subst (λ o. waiting_under false e p o ≡ 0) (sym owned) (none_emptied e p w.owned)) t'

-- ---- turns

-- an effect that lives, by its own number
effect_lives : (e : ℕ) (x : Effect) (w : World) → effect_at e w.effects ≡ Some x → 1 ≤ alive (the_effect x.number) (roll_of w)
effect_lives e x w h =
    let counted : (e ≡ x.number) × (1 ≤ times_in e (effect_numbers w.effects)) = effect_counted e w.effects x h in
    subst (λ n. 1 ≤ times_in n (effect_numbers w.effects)) counted.0 counted.1

-- a flush
pub flush_tidy : (env : Environment) (w : World) → Tidy w [] → Tidy (flush env w).world []
flush_tidy env w t =
    flush_keeps env (λ v. Tidy v [])
    (record { settles = λ names v u. settle_tidy env names v [] u; runs = λ e x v h u. run_tidy env x v (effect_lives e x v h) u }) 100 w t
