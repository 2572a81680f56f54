use Rattle.std.proofs.Common.{◌≡◌, ℕ, drop}
use Rattle.effect_tables.specs.Consistency.{AreRising}
use Rattle.effect_tables.specs.Bodies.{undoings_of}
use Rattle.effect_tables.specs.Things.{noted}
use Rattle.effect_teardown.specs.Ends.{effects_after, owners_after, pages_after, things_after}
use Rattle.effect_teardown.proofs.removal.end_all.Given as goal

abbrev pub invariant-loop-undoing : goal.invariant-loop-undoing
invariant-loop-undoing l = record {
  owners : owners_after (undoings_of (drop l.undoing-index l.undoings)) l.owners.items ≡ owners_after (undoings_of l.undoings) l.fn.owners.items;
  effects : effects_after (undoings_of (drop l.undoing-index l.undoings)) l.effects.items ≡ effects_after (undoings_of l.undoings) l.fn.effects.items;
  pages : pages_after (undoings_of (drop l.undoing-index l.undoings)) l.pages.items ≡ pages_after (undoings_of l.undoings) l.fn.pages.items;
  things : (k : ℕ) → things_after (undoings_of (drop l.undoing-index l.undoings)) l.owners.items l.effects.items (noted l.things) k ≡ things_after (undoings_of l.undoings) l.fn.owners.items l.fn.effects.items (noted l.fn.things) k;
  rising : AreRising 0 l.effects.items;
}
