use Rattle.std.proofs.Common.{◌≡◌, ◌≤◌, suc, length, drop, map}
use Rattle.tpl_model.specs.Lines as model
use Rattle.tpl_blocks.specs.Blocks.{held, plain_line}
use Rattle.tpl_blocks.proofs.builder.parts_of.Given as goal

abbrev pub invariant-loop-at : goal.invariant-loop-at
invariant-loop-at l = record {
  within : l.at ≤ length l.lines;
  stands : held l.parts.items ≡ model.parts_from (suc l.at) (map plain_line (drop l.at l.lines));
}

abbrev pub decreases-loop-at : goal.decreases-loop-at
decreases-loop-at l = l.at
