use Rattle.std.proofs.Common.{◌≡◌, ◌≤◌, ◌+◌, ◌-◌, length}
use Rattle.sig_io.specs.Counts.{raised}
use Rattle.page_follow.specs.declared.input.TheConstants.{MOST_FRAMES}
use Rattle.page_follow.proofs.Streams.{Came}
use Rattle.page_follow.proofs.input.live_follow.Given as goal

abbrev pub invariant-loop-count : goal.invariant-loop-count
invariant-loop-count g l = record {
  so_far : Came (g.S.Source.left l.fn.source) (g.S.Source.left l.source) (g.K.Sink.held l.fn.sink) (g.K.Sink.held l.sink) l.frames l.came;
  few : l.came ≤ MOST_FRAMES;
  place : l.frames.decoding.at + length l.frames.decoding.rest ≡ l.came;
  given : raised (g.S.Source.given l.fn.source) l.came ≤ g.S.Source.given l.source;
  later : g.S.Source.faults l.fn.source ≤ g.S.Source.faults l.source;
  later_put : g.K.Sink.faults l.fn.sink ≤ g.K.Sink.faults l.sink;
}

abbrev pub decreases-loop-count : goal.decreases-loop-count
decreases-loop-count g l = MOST_FRAMES - l.came
