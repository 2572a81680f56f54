use Rattle.std.proofs.Common.{◌≡◌, ◌++◌, false, drop}
use Rattle.page_ops.specs.Parser.{unquoted}
use Rattle.page_ops.proofs.parts.unquoted.Given as goal

abbrev pub invariant-loop-byte : goal.invariant-loop-byte
invariant-loop-byte l = l.out.items ++ unquoted l.escaped (drop l.byte-index l.bytes) ≡ unquoted false l.bytes
