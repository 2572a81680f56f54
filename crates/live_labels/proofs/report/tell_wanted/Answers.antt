use Rattle.std.proofs.Common.{sym, ◌∙◌}
use Rattle.live_labels.specs.Views.{labels_of}
use Rattle.live_labels.proofs.Told.{unwanted, unwanted_same, wanted}
use Rattle.live_labels.proofs.report.tell_wanted.Goals as goal

pub returns-then-not-is_wanted-clause-entries : goal.returns-then-not-is_wanted-clause-entries
returns-then-not-is_wanted-clause-entries c =
    unwanted c.args.traced (labels_of c.args.labels.now) c.args.event.now c.args.told.now.items (sym c.is_wanted.ensures ∙ c.if-not-is_wanted.true)

pub returns-then-not-is_wanted-clause-labels : goal.returns-then-not-is_wanted-clause-labels
returns-then-not-is_wanted-clause-labels c =
    unwanted_same c.args.traced (labels_of c.args.labels.now) c.args.event.now (sym c.is_wanted.ensures ∙ c.if-not-is_wanted.true)

pub returns-clause-entries : goal.returns-clause-entries
returns-clause-entries c =
    c.in_ok-tell_one.ensures.entries
    ∙ wanted c.args.traced (labels_of c.args.labels.now) c.args.event.now c.args.told.now.items (sym c.is_wanted.ensures ∙ c.if-not-is_wanted.false)
