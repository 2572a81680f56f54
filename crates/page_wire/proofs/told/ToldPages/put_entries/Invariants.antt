use Rattle.std.proofs.Common.{◌≡◌, ◌++◌, drop}
use Rattle.std.specs.List.{AllByRecursion}
use Rattle.live_entries.specs.Printed.{IsSizedEntry}
use Rattle.wire_model.specs.Notes.{frames}
use Rattle.wire_model.specs.Wired.{wired_from}
use Rattle.page_wire.specs.Telling.{wires_behind}
use Rattle.page_wire.proofs.told.ToldPages.put_entries.Given as goal

-- what the entries so far came to, and those behind them, is what all come to
abbrev pub invariant-loop-entry : goal.invariant-loop-entry
invariant-loop-entry l = record {
  notes : l.out.items ++ frames (wired_from l.self (drop l.entry-index l.entries))
      ≡ l.fn.out.items ++ frames (wired_from l.fn.self l.entries);
  told : wires_behind l.self (drop l.entry-index l.entries) ≡ wires_behind l.fn.self l.entries;
  sized : AllByRecursion IsSizedEntry (drop l.entry-index l.entries) → AllByRecursion IsSizedEntry l.entries;
}
