use Rattle.std.proofs.Common.{map, is_some, cond, None, Some, refl, sym, ap, ◌∙◌}
use Rattle.effect_model.specs.Acts.{host_of, host_refused}
use Rattle.effect_model.specs.Worlds.{host_taken}
use Rattle.sig_nodes.specs.declared.answers.Recipe.{Recipe}
use Rattle.sig_nodes.specs.Answers.{expression_of}
use Rattle.effect_world.specs.Wholes.{whole_of}
use Rattle.effect_acts.proofs.recipes.host_refusal.Goals as goal

pub returns-in-Formula-clause-none : goal.returns-in-Formula-clause-none
returns-in-Formula-clause-none g c = ap (λ (r : Recipe). host_refused (host_of (expression_of r)) (whole_of (map (λ p. record { there = is_some p.host; asks = p.count }) c.args.shelf.now.places.items) c.args.world.now)) c.in-Formula.is

pub returns-then-is_free-clause-none : goal.returns-then-is_free-clause-none
returns-then-is_free-clause-none g c =
    ap (λ (r : Recipe). host_refused (host_of (expression_of r)) (whole_of (map (λ p. record { there = is_some p.host; asks = p.count }) c.args.shelf.now.places.items) c.args.world.now)) c.in-Host.is
    ∙ ap (λ b. cond b None (Some (host_taken c.in-Host.place))) (sym c.is_free.ensures ∙ c.if-is_free.true)

pub returns-else-is_free-clause-some : goal.returns-else-is_free-clause-some
returns-else-is_free-clause-some g c = record {
  why = host_taken c.in-Host.place;
  is =
      ap (λ (r : Recipe). host_refused (host_of (expression_of r)) (whole_of (map (λ p. record { there = is_some p.host; asks = p.count }) c.args.shelf.now.places.items) c.args.world.now)) c.in-Host.is
      ∙ ap (λ b. cond b None (Some (host_taken c.in-Host.place))) (sym c.is_free.ensures ∙ c.if-is_free.false);
  told = refl;
}
