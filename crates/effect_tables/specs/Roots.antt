-- What stands at the top and can't own isn't kept, and nothing that is done rests on it.
use Rattle.std.specs.Prelude.{◌≡◌, ℕ, false, List, ◌++◌}
use Rattle.sig_base.specs.declared.value.Value.{Value}
use Rattle.signal_model.specs.Recipes.{Recipe}
use Rattle.signal_model.specs.Values.{Seen}
use Rattle.effect_model.specs.Owners.{Thing, Owned, nothing, thing, cleanup, is_holder}
use Rattle.effect_model.specs.Bodies.{Act, BodyResult}
use Rattle.effect_model.specs.Worlds.{Environment, Effect, World, settle, at_rest}
use Rattle.effect_model.specs.Acts.{notify_of_all, set_cell, rewire_signal, take_back, dispose_thing}
use Rattle.effect_model.specs.Batches.{Batch, set_quietly, abort}
use Rattle.effect_model.specs.Commands.{Command, after_command}
use Rattle.effect_model.specs.Runs.{look, do_act, do_acts, keep_reads, do_result, run_effect, turn, last_look, flush}

-- under what stands at the top and can't own there is nothing
abbrev pub AreBare : Owned → Type 0
AreBare nothing = Unit {0}
AreBare (thing t made earlier) = (is_holder t ≡ false → made ≡ nothing) × AreBare earlier
AreBare (cleanup c earlier) = AreBare earlier

-- An act does the same to a world at rest as to the world itself, and tells the same, behind what was told before.
pub record Rests (act : World → World) : Type 0 where
  pub whole : (w : World) → AreBare w.owned → at_rest (act (at_rest w)) ≡ at_rest (act w)
  pub told : (w : World) → AreBare w.owned → (act w).told ≡ w.told ++ (act (at_rest w)).told
  pub bare : (w : World) → AreBare w.owned → AreBare (act w).owned

-- so do settling, each change and each end, each act of a run, a look, and a whole run
pub record AllRest : Type 0 where
  pub settling : (env : Environment) (names : List ℕ) → Rests (settle env names)
  pub setting : (env : Environment) (n : ℕ) (v : Value) → Rests (set_cell env n v)
  pub setting_quietly : (env : Environment) (n : ℕ) (v : Value) → Rests (set_quietly env n v)
  pub restoring : (b : Batch) → Rests (abort b)
  pub notifying : (ns : List ℕ) → Rests (notify_of_all ns)
  pub rewiring : (n : ℕ) (r : Recipe) → Rests (rewire_signal n r)
  pub taking_back : (env : Environment) (t : Thing) → Rests (take_back env t)
  pub disposing : (env : Environment) (t : Thing) → Rests (dispose_thing env t)
  pub acting : (env : Environment) (e k : ℕ) (a : Act) → Rests (do_act env e k a)
  pub acting_on : (env : Environment) (e k : ℕ) (as' : List Act) → Rests (do_acts env e k as')
  pub keeping : (e : ℕ) (ss : List Seen) → Rests (keep_reads e ss)
  pub ending : (env : Environment) (e : ℕ) (r : BodyResult) → Rests (do_result env e r)
  pub looking : (env : Environment) (x : Effect) → Rests (look env x)
  pub running : (env : Environment) (x : Effect) → Rests (run_effect env x)

-- so does a turn, which runs an effect of the one world where it runs one of the other
pub record TurnRests (env : Environment) : Type 0 where
  pub world : Rests (λ w. (turn env w).world)
  pub ran : (w : World) → AreBare w.owned → (turn env (at_rest w)).ran ≡ (turn env w).ran

-- and the last look at effects, which finds one due where it finds one of the other
pub record LastRests (env : Environment) (ids : List ℕ) : Type 0 where
  pub world : Rests (λ w. (last_look env ids w).world)
  pub refused : (w : World) → AreBare w.owned → (last_look env ids (at_rest w)).refused ≡ (last_look env ids w).refused

-- and a flush, which makes as many turns, and is refused where the other is
pub record FlushRests (env : Environment) : Type 0 where
  pub world : Rests (λ w. (flush env w).world)
  pub turns : (w : World) → AreBare w.owned → (flush env (at_rest w)).turns ≡ (flush env w).turns
  pub refused : (w : World) → AreBare w.owned → (flush env (at_rest w)).refused ≡ (flush env w).refused

-- and each command of a script
abbrev pub CommandsRest : Type 0
CommandsRest = (env : Environment) (c : Command) → Rests (λ w. after_command env w c)
