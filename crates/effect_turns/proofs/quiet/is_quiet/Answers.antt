use Rattle.std.proofs.Common.{map, sym, ap, ◌∙◌}
use Rattle.effect_model.specs.Worlds.{effect_at}
use Rattle.effect_tables.specs.Placed.{effect_of}
use Rattle.effect_turns.proofs.quiet.is_quiet.Goals as goal

pub returns-in-Some : goal.returns-in-Some
returns-in-Some c = λ h. record {
  effect = effect_of c.in-Some.effect.now;
  lives = ap (λ xs. effect_at c.args.id (map effect_of xs)) (sym c.deref.ensures.value) ∙ c.in-Some.ensures.lives;
  still = sym c.has_still.ensures ∙ h;
}

pub returns-in-None : goal.returns-in-None
returns-in-None c = λ h. absurd cc
