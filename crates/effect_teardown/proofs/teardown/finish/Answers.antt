use Rattle.std.proofs.Common.{ap, refl, map, ◌∙◌}
use Rattle.effect_tables.specs.Bodies.{undoings_of}
use Rattle.effect_tables.specs.Things.{noted}
use Rattle.effect_teardown.specs.Ends.{effects_after, owners_after, pages_after, things_after}
use Rattle.effect_teardown.specs.Steps.{retold}
use Rattle.effect_teardown.proofs.teardown.finish.Goals as goal

pub returns-clause-told : goal.returns-clause-told
returns-clause-told c = c.in_ok-undoings.ensures ∙ ap (map (retold (noted c.args.tables.now.things))) c.deref.ensures.value

pub returns-clause-done : goal.returns-clause-done
returns-clause-done c = record {
  store = refl;
  things = λ k. c.end_all.ensures.things k ∙ ap (λ us. things_after (undoings_of us) c.args.tables.now.owners.items c.args.tables.now.effects.items (noted c.args.tables.now.things) k) c.deref-2.ensures.value;
  owners = c.end_all.ensures.owners ∙ ap (λ us. owners_after (undoings_of us) c.args.tables.now.owners.items) c.deref-2.ensures.value;
  effects = c.end_all.ensures.effects ∙ ap (λ us. effects_after (undoings_of us) c.args.tables.now.effects.items) c.deref-2.ensures.value;
  pages = c.end_all.ensures.pages ∙ ap (λ us. pages_after (undoings_of us) c.args.tables.now.pages.items) c.deref-2.ensures.value;
  effects_made = refl;
  pages_made = refl;
}
