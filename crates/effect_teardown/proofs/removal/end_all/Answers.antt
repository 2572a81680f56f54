use Rattle.std.proofs.Common.{◌+◌, drop, sym, ap, subst, ◌∙◌}
use Rattle.std.proofs.lemmas.List.{at_drop_more}
use Rattle.effect_tables.specs.declared.thing.Undoing.{Undoing}
use Rattle.effect_tables.specs.Consistency.{AreRising}
use Rattle.effect_tables.specs.Bodies.{undoing_of, undoings_of}
use Rattle.effect_tables.specs.Things.{noted}
use Rattle.effect_teardown.specs.Ends.{effects_after, effects_without, owners_after, owners_without, pages_after, pages_without, things_after, things_without}
use Rattle.effect_teardown.proofs.Lists.{rising_without}
use Rattle.effect_teardown.proofs.removal.end_all.Goals as goal

pub loop-undoing-preserved : goal.loop-undoing-preserved
loop-undoing-preserved c =
    let us = c.args.undoings.now in
    let i = c.loop-undoing.undoing-index in
    let u = c.undoing-item.result in
    let rest = undoings_of (drop (i + 1) us) in
    let owners = c.loop-undoing.owners.items in
    let effects = c.loop-undoing.effects.items in
    let pages = c.loop-undoing.pages.items in
    let things = noted c.loop-undoing.things in
    record {
      owners =
          ap (owners_after rest) (c.end_one.ensures.owners ∙ ap (λ (x : Undoing). owners_without (undoing_of x) owners) c.undoing-item.is)
          ∙ sym (at_drop_more (λ xs. owners_after (undoings_of xs) owners) us i u c.loop-undoing-test.true)
          ∙ c.loop-undoing.invariant.owners;
      effects =
          ap (effects_after rest) (c.end_one.ensures.effects ∙ ap (λ (x : Undoing). effects_without (undoing_of x) effects) c.undoing-item.is)
          ∙ sym (at_drop_more (λ xs. effects_after (undoings_of xs) effects) us i u c.loop-undoing-test.true)
          ∙ c.loop-undoing.invariant.effects;
      pages =
          ap (pages_after rest) (c.end_one.ensures.pages ∙ ap (λ (x : Undoing). pages_without (undoing_of x) pages) c.undoing-item.is)
          ∙ sym (at_drop_more (λ xs. pages_after (undoings_of xs) pages) us i u c.loop-undoing-test.true)
          ∙ c.loop-undoing.invariant.pages;
      things = λ k.
          (λ j. things_after rest (c.end_one.ensures.owners j) (c.end_one.ensures.effects j) (λ n. c.end_one.ensures.things n j) k)
          ∙ ap (λ (x : Undoing). things_after rest (owners_without (undoing_of x) owners) (effects_without (undoing_of x) effects) (things_without (undoing_of x) owners effects things) k) c.undoing-item.is
          ∙ sym (at_drop_more (λ xs. things_after (undoings_of xs) owners effects things k) us i u c.loop-undoing-test.true)
          ∙ c.loop-undoing.invariant.things k;
      rising = subst (AreRising 0) (sym c.end_one.ensures.effects) (rising_without _ _ c.loop-undoing.invariant.rising);
    }
