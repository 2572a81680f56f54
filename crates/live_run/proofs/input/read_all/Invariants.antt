use Rattle.std.proofs.Common.{◌≤◌, ◌-◌, length}
use Rattle.std.specs.Io.KnownBytes.{Consumes}
use Rattle.sig_io.specs.Counts.{raised}
use Rattle.sig_base.specs.declared.limits.TheConstants.{MOST_SCRIPT}
use Rattle.live_run.proofs.input.read_all.Given as goal

abbrev pub invariant-loop-count : goal.invariant-loop-count
invariant-loop-count g l = record {
  bytes : Consumes (g.S.Source.left l.fn.source) (g.S.Source.left l.source) l.bytes.items;
  short : length l.bytes.items ≤ MOST_SCRIPT;
  given : raised (g.S.Source.given l.fn.source) (length l.bytes.items) ≤ g.S.Source.given l.source;
  later : g.S.Source.faults l.fn.source ≤ g.S.Source.faults l.source;
}

abbrev pub decreases-loop-count : goal.decreases-loop-count
decreases-loop-count g l = MOST_SCRIPT - length l.bytes.items
