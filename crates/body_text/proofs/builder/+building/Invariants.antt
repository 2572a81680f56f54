use Rattle.std.proofs.Common.{◌≡◌, ◌∷◌, ◌++◌, ◌+◌, ◌*◌, ◌≤◌, List, length}
use Rattle.body_text.specs.declared.line.Line.{Line}
use Rattle.body_text.specs.declared.line.Line.TheVariants.{End}
use Rattle.body_text.specs.Parts.{most_more, size}
use Rattle.body_text.specs.Statements.{Statements, lines_of}
use Rattle.body_text.proofs.Parts.{UpTo}
use Rattle.body_text.proofs.builder.+building.Given as goal

abbrev pub decreases-block : goal.decreases-block
decreases-block l = 3 * length l.lines.now.items

abbrev pub decreases-guarded : goal.decreases-guarded
decreases-guarded l = 3 * length l.lines.now.items + 1

abbrev pub decreases-nested : goal.decreases-nested
decreases-nested l = 3 * length l.lines.now.items + 1

abbrev pub decreases-statement : goal.decreases-statement
decreases-statement l = 3 * length l.lines.now.items + 2

abbrev pub invariant-block-loop-line : goal.invariant-block-loop-line
invariant-block-loop-line l = record {
  fewer : length l.lines.items ≤ length l.fn.lines.items;
  few : size l.lists + most_more * length l.lines.items ≤ size l.fn.lists + most_more * length l.fn.lines.items;
  upto : (s : Statements) (r : List Line) → l.fn.lines.items ≡ lines_of s ++ (End ∷ r) → UpTo s r l.fn.lists l.lists l.out.items l.lines.items;
}

abbrev pub decreases-block-loop-line : goal.decreases-block-loop-line
decreases-block-loop-line l = length l.lines.items
