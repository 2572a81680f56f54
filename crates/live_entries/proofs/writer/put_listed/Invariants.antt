use Rattle.std.proofs.Common.{◌≡◌, ◌++◌, take, flat_map}
use Rattle.live_entries.specs.Printed.{listed}
use Rattle.live_entries.proofs.writer.put_listed.Given as goal

-- the names so far
abbrev pub invariant-loop-name : goal.invariant-loop-name
invariant-loop-name l = l.out.items ≡ l.fn.out.items ++ flat_map listed (take l.name-index l.names)
