use Rattle.std.proofs.Common.{◌≡◌, drop}
use Rattle.live_labels.proofs.Noted.{noted_by}
use Rattle.live_labels.proofs.notes.note_events.Given as goal

-- with the rest noted the journal is that of all
abbrev pub invariant-loop-event : goal.invariant-loop-event
invariant-loop-event l = noted_by (drop l.event-index l.events) l.recorder ≡ noted_by l.events l.fn.recorder
