use Rattle.std.proofs.Common.{◌≡◌, false, drop, length}
use Rattle.page_ops.specs.Parser.{behind_quote}
use Rattle.page_ops.proofs.parts.behind_literal.Given as goal

abbrev pub invariant-loop-byte : goal.invariant-loop-byte
invariant-loop-byte l = behind_quote l.escaped l.left ≡ behind_quote false (drop 1 l.bytes)

abbrev pub decreases-loop-byte : goal.decreases-loop-byte
decreases-loop-byte l = length l.left
