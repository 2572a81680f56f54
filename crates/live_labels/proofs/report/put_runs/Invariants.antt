use Rattle.std.proofs.Common.{◌≡◌, ◌++◌, map, take}
use Rattle.sig_computed.specs.Notes.{note_of}
use Rattle.live_labels.specs.Entries.{note_entry}
use Rattle.live_labels.proofs.report.put_runs.Given as goal

-- the runs so far
abbrev pub invariant-loop-note : goal.invariant-loop-note
invariant-loop-note l = l.told.items ≡ l.fn.told.items ++ map (note_entry l.names) (map note_of (take l.note-index l.notes))
