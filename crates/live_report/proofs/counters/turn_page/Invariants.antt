use Rattle.std.proofs.Common.{◌≡◌, drop}
use Rattle.live_report.specs.Counts.{page_after}
use Rattle.live_report.proofs.counters.turn_page.Given as goal

-- the page that is told last, by that of the entries so far and those behind them
abbrev pub invariant-loop-entry : goal.invariant-loop-entry
invariant-loop-entry l = record { told : page_after l.page (drop l.entry-index l.entries) ≡ page_after l.fn.page l.entries }
