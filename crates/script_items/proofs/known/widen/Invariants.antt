use Rattle.std.proofs.Common.{◌≡◌, ◌++◌, None}
use Rattle.std.specs.Prelude.{replicate}
use Rattle.script_items.proofs.known.widen.Given as goal

-- so many more so far
abbrev pub invariant-loop : goal.invariant-loop
invariant-loop l = l.names.items ≡ l.fn.names.items ++ replicate l.counter None
