use Rattle.std.proofs.Common.{◌++◌, sym, ap, ◌∙◌}
use Rattle.std.proofs.lemmas.List.{append-nil, drop_all}
use Rattle.live_labels.specs.Entries.{told_for}
use Rattle.live_labels.specs.Views.{labels_of}
use Rattle.live_labels.proofs.Told.{all_rename, renamed_by}
use Rattle.live_labels.proofs.report.tell_each.Goals as goal

pub returns-clause-entries : goal.returns-clause-entries
returns-clause-entries c =
    let none = drop_all c.loop-event.event-index c.args.events.now c.loop-event-test.false in
    sym (append-nil c.loop-event.told.items)
    ∙ ap (λ es. c.loop-event.told.items ++ told_for c.args.traced (labels_of c.loop-event.labels) es) (sym none)
    ∙ c.loop-event.invariant.told

pub returns-clause-labels : goal.returns-clause-labels
returns-clause-labels c = λ ts h.
    let none = drop_all c.loop-event.event-index c.args.events.now c.loop-event-test.false in
    ap (λ es. renamed_by es (labels_of c.loop-event.labels)) (sym none)
    ∙ c.loop-event.invariant.labels ∙ all_rename (labels_of c.args.labels.now) c.args.events.now ts h
