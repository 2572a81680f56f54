-- What looks and runs keep, turns and flushes keep.
use Rattle.std.proofs.Common.{◌≡◌, ℕ, zero, suc, Bool, true, false, cond, List, [], ◌∷◌, Option, Some, None, refl}
use Rattle.effect_model.specs.Bodies.{Act}
use Rattle.effect_model.specs.Owners.{the_effect}
use Rattle.effect_model.specs.Worlds.{Environment, Effect, World, effect_at, effect_numbers, lives, settle}
use Rattle.effect_model.specs.Runs.{is_effect_due, looked_names, value_now, look, do_act, next_child, do_acts, run_effect, Turned, after_look}
use Rattle.effect_model.specs.Runs.{at_place, turn_over, Flushed, after_last, last_case, last_look, after_turn, turn, flush_within}

-- it is kept by settling, and by each run of an effect that lives
pub record IsKeptByRuns (env : Environment) (P : World → Type 0) : Type 0 where
  pub settles : (names : List ℕ) (w : World) → P w → P (settle env names w)
  pub runs : (e : ℕ) (x : Effect) (w : World) → effect_at e w.effects ≡ Some x → P w → P (run_effect env x w)

looked : (env : Environment) (P : World → Type 0) → IsKeptByRuns env P → (x : Effect) (w : World) → P w → P (look env x w)
looked env P k x w p = k.settles (looked_names (value_now env w) x.kept) w p

placed : (env : Environment) (P : World → Type 0) → IsKeptByRuns env P → (e : ℕ) (x : Option Effect) (t : Turned) → effect_at e t.world.effects ≡ x →
    P t.world → P (at_place env x t).world
placed env P k e None t h p = p
placed env P k e (Some x) t h p = go (is_effect_due (value_now env t.world) x.kept)
  where
    go : (b : Bool) → P (after_look env x b (look env x t.world) t.ran).world
    go true = k.runs e x (look env x t.world) h (looked env P k x t.world p)
    go false = looked env P k x t.world p

turned : (env : Environment) (P : World → Type 0) → IsKeptByRuns env P → (es : List ℕ) (t : Turned) → P t.world → P (turn_over env es t).world
turned env P k [] t p = p
turned env P k (e ∷ es) t p =
    turned env P k es (at_place env (effect_at e t.world.effects) t) (placed env P k e (effect_at e t.world.effects) t refl p)

last : (env : Environment) (P : World → Type 0) → IsKeptByRuns env P → (x : Option Effect) (w : World) (go : World → Flushed) →
    ((v : World) → P v → P (go v).world) → P w → P (last_case env x w go).world
last env P k None w go h p = h w p
last env P k (Some x) w go h p = by (is_effect_due (value_now env w) x.kept)
  where
    by : (b : Bool) → P (after_last b (look env x w) go).world
    by true = looked env P k x w p
    by false = h (look env x w) (looked env P k x w p)

last_looked : (env : Environment) (P : World → Type 0) → IsKeptByRuns env P → (es : List ℕ) (w : World) → P w → P (last_look env es w).world
last_looked env P k [] w p = p
last_looked env P k (e ∷ es) w p = last env P k (effect_at e w.effects) w (last_look env es) (λ v q. last_looked env P k es v q) p

after : (P : World → Type 0) (b : Bool) (w : World) (go : World → Flushed) → ((v : World) → P v → P (go v).world) → P w → P (after_turn b w go).world
after P true w go h p = h w p
after P false w go h p = p

-- a turn keeps it
pub turn_keeps : (env : Environment) (P : World → Type 0) → IsKeptByRuns env P → (w : World) → P w → P (turn env w).world
turn_keeps env P k w p = turned env P k (effect_numbers w.effects) (record { world = w; ran = false }) p

-- a flush keeps it
pub flush_keeps : (env : Environment) (P : World → Type 0) → IsKeptByRuns env P → (most : ℕ) (w : World) → P w → P (flush_within most env w).world
flush_keeps env P k zero w p = last_looked env P k (effect_numbers w.effects) w p
flush_keeps env P k (suc more) w p =
    after P (turn env w).ran (turn env w).world (flush_within more env) (λ v q. flush_keeps env P k more v q)
    (turn_keeps env P k w p)

-- where each act of a live effect keeps it, all acts do
pub acts_keep : (env : Environment) (P : World → Type 0) (e : ℕ) →
    ((j : ℕ) (a : Act) (w : World) → lives (the_effect e) w ≡ true → P w → P (do_act env e j a w)) →
    (j : ℕ) (as' : List Act) (w : World) → P w → P (do_acts env e j as' w)
acts_keep env P e k j [] w p = p
acts_keep env P e k j (a ∷ as') w p =
    acts_keep env P e k (next_child a j) as' (cond (lives (the_effect e) w) (do_act env e j a w) w) (go (lives (the_effect e) w) refl)
  where
    go : (b : Bool) → lives (the_effect e) w ≡ b → P (cond b (do_act env e j a w) w)
    go true h = k j a w h p
    go false h = p
