use Rattle.std.proofs.Common.{Err, ap}
use Rattle.why_model.specs.Facts.{was_changed}
use Rattle.live_why.proofs.Recorded.{noted_behind, noted_full}
use Rattle.live_why.proofs.recorder.Recorder.note_change.Goals as goal

pub returns-in-Ok-clause-noted : goal.returns-in-Ok-clause-noted
returns-in-Ok-clause-noted c =
    noted_behind (was_changed c.args.id c.args.how) c.args.self.now c.self.inside.journal c.note_change.new.self c.self.inside.is_full c.self.view_is
    c.in-Ok.ensures.noted (λ full. let no = c.in-Ok.ensures.full.1 full in absurd cc)

pub returns-in-Err-Full-clause-noted : goal.returns-in-Err-Full-clause-noted
returns-in-Err-Full-clause-noted c =
    noted_full (was_changed c.args.id c.args.how) c.args.self.now c.self.inside.journal c.note_change.new.self c.self.inside.is_full c.self.view_is
    c.in-Err-Full.ensures.err (c.in-Err-Full.ensures.full.0 (ap Err c.in-Err-Full.field-0-is))
