use Rattle.std.proofs.Common.{◌≡◌, ◌++◌, take, flat_map}
use Rattle.live_entries.specs.Printed.{dotted}
use Rattle.live_entries.proofs.writer.put_dotted.Given as goal

-- the numbers so far
abbrev pub invariant-loop-number : goal.invariant-loop-number
invariant-loop-number l = l.out.items ≡ l.fn.out.items ++ flat_map dotted (take l.number-index l.numbers)
