use Rattle.std.proofs.Common.{Err, ap}
use Rattle.why_model.specs.Facts.{has_run}
use Rattle.live_why.specs.Views.{note_of}
use Rattle.live_why.proofs.Recorded.{noted_behind, noted_full}
use Rattle.live_why.proofs.recorder.Recorder.note_run.Goals as goal

pub returns-in-Ok-clause-noted : goal.returns-in-Ok-clause-noted
returns-in-Ok-clause-noted c =
    noted_behind (has_run (note_of c.args.run.now)) c.args.self.now c.self.inside.journal c.note_run.new.self c.self.inside.is_full c.self.view_is
    c.in-Ok.ensures.noted (λ full. let no = c.in-Ok.ensures.full.1 full in absurd cc)

pub returns-in-Err-Full-clause-noted : goal.returns-in-Err-Full-clause-noted
returns-in-Err-Full-clause-noted c =
    noted_full (has_run (note_of c.args.run.now)) c.args.self.now c.self.inside.journal c.note_run.new.self c.self.inside.is_full c.self.view_is
    c.in-Err-Full.ensures.err (c.in-Err-Full.ensures.full.0 (ap Err c.in-Err-Full.field-0-is))
