use Rattle.std.proofs.Common.{arith, sym}
use Rattle.script_lines.proofs.Reader.{return_dropped, no_return}
use Rattle.script_lines.proofs.line.without_return.Goals as goal
use Rattle.script_lines.proofs.line.without_return.Goals.{else-n-gt0-via-then-n-gt0+else-line-n-eq13, else-n-gt0-via-else-n-gt0}

pub returns-then-line-n-eq13 : goal.returns-then-line-n-eq13
returns-then-line-n-eq13 c = let a = c.if-n-gt0.true in sym (return_dropped _ (omega arith) c.if-line-n-eq13.true)

pub returns-else-n-gt0 : goal.returns-else-n-gt0
returns-else-n-gt0 c = elim c.else-n-gt0.branch [
  | else-n-gt0-via-then-n-gt0+else-line-n-eq13 w ↦ sym (no_return _ (λ p e. w.if-line-n-eq13.false e))
  | else-n-gt0-via-else-n-gt0 w ↦ let a = w.if-n-gt0.false in sym (no_return _ (λ p e. omega arith))
]
