use Rattle.std.proofs.Common.{arith, refl}
use Rattle.script_lines.proofs.Blocks.{next_line, no_lines}
use Rattle.script_lines.proofs.block.lines_of.Goals as goal

pub loop-line-init : goal.loop-line-init
loop-line-init c = record {
  within = omega arith;
  count = omega arith;
  lines = rw c.new-lines.ensures.items refl;
}

pub loop-line-preserved : goal.loop-line-preserved
loop-line-preserved c =
    let w = c.in-Some.ensures.within in
    let n = c.in-Some.ensures.count in
    let v = c.loop-line.invariant in
    record {
      within = omega arith;
      count = omega arith;
      lines = rw c.in_ok-push.ensures.items (next_line c.loop-line.lines.items c.in-Some.line _ _ _ c.in-Some.ensures.kept c.loop-line.invariant.lines);
    }

pub returns : goal.returns
returns c = no_lines c.loop-line.lines.items _ _ c.in_default.ensures.kept c.loop-line.invariant.lines
