use Rattle.std.proofs.Common.{◌≡◌, drop, map}
use Rattle.why_model.specs.Facts.{has_run}
use Rattle.why_model.specs.Records.{with_facts}
use Rattle.live_why.specs.Views.{note_of}
use Rattle.live_why.proofs.recorder.Recorder.note_all.Given as goal

-- with the rest noted the journal is that of all
abbrev pub invariant-loop-run : goal.invariant-loop-run
invariant-loop-run l = with_facts (map has_run (map note_of (drop l.run-index l.runs))) l.self ≡ with_facts (map has_run (map note_of l.runs)) l.fn.self
