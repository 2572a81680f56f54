use Rattle.std.proofs.Common.{◌≡◌, ◌++◌, drop}
use Rattle.live_labels.specs.Entries.{told_for}
use Rattle.live_labels.specs.Views.{labels_of, KeepsNames}
use Rattle.live_labels.proofs.Told.{renamed_by}
use Rattle.live_labels.proofs.report.tell_each.Given as goal

-- what was told so far and what is told of the rest is the whole
abbrev pub invariant-loop-event : goal.invariant-loop-event
invariant-loop-event l = record {
  told : l.told.items ++ told_for l.traced (labels_of l.labels) (drop l.event-index l.events) ≡ told_for l.traced (labels_of l.fn.labels) l.events;
  labels : renamed_by (drop l.event-index l.events) (labels_of l.labels) ≡ renamed_by l.events (labels_of l.fn.labels);
  names : KeepsNames l.fn.labels l.labels;
}
