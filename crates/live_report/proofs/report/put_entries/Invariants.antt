use Rattle.std.proofs.Common.{◌≡◌, ◌++◌, drop, take, flat_map}
use Rattle.std.specs.List.{AllByRecursion}
use Rattle.live_entries.specs.Printed.{printed, IsSizedEntry}
use Rattle.live_report.proofs.report.put_entries.Given as goal

-- the lines of the entries so far, and what all those behind them say of all
abbrev pub invariant-loop-entry : goal.invariant-loop-entry
invariant-loop-entry l = record {
  text : l.out.items ≡ l.fn.out.items ++ flat_map (printed l.trace) (take l.entry-index l.entries);
  sized : AllByRecursion IsSizedEntry (drop l.entry-index l.entries) → AllByRecursion IsSizedEntry l.entries;
}
