-- Acts one after the other.
use Rattle.std.proofs.Common.{ℕ, List, ◌∙◌}
use Rattle.signal_model.specs.Recipes.{Hosts}
use Rattle.effect_model.specs.Owners.{the_owner}
use Rattle.effect_model.specs.Worlds as plain
use Rattle.effect_tables.specs.Placed.{tree_of}
use Rattle.effect_tables.specs.Roots.{Rests}
use Rattle.sig_effect.specs.Stores.{environment}
use Rattle.effect_acts.proofs.SharedActs.{does_then, formed_bare}
use Rattle.effect_world.specs.Signals.{Scene}
use Rattle.effect_world.specs.Stores.{Agrees, Does}
use Rattle.effect_turns.specs.Runs.{Runs}

-- where one act was done and then another, both were done, one after the other
pub runs_then : (slacks : List ℕ) (old mid new : Scene) (before between after : Hosts → Type 0) (f g : plain.Environment → plain.World → plain.World) →
    Agrees old.asked old.world → ((env : plain.Environment) → Rests (f env)) → ((env : plain.Environment) → Rests (g env)) →
    Runs slacks old mid before between f → Runs slacks mid new between after g → Runs slacks old new before after (λ env w. g env (f env w))
runs_then slacks old mid new before between after f g agrees first later a b = record {
  does = λ hosts all sound.
      let env : plain.Environment = environment hosts slacks in
      let one : Does hosts old.asked mid.asked old.world mid.world old.events mid.events (f env) = a.does hosts all sound in
      does_then hosts old mid new (f env) (g env) (formed_bare (the_owner 0) (tree_of old.world.tables) agrees.owned.formed.formed) (first env) (later env) one
      (b.does hosts (a.answers hosts all) one.sound);
  agrees = b.agrees;
  answers = λ hosts all. b.answers hosts (a.answers hosts all);
  rules = λ count h. b.rules count (a.rules count h);
  given = b.given ∙ a.given;
  made = b.made ∙ a.made;
}
