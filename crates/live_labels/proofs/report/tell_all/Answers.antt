use Rattle.std.proofs.Common.{◌∙◌}
use Rattle.live_labels.specs.Views.{labels_of}
use Rattle.live_labels.proofs.Told.{all_traced}
use Rattle.live_labels.proofs.report.tell_all.Goals as goal

pub returns-clause-entries : goal.returns-clause-entries
returns-clause-entries c = λ ts h. c.in_ok-told.ensures.entries ∙ all_traced (labels_of c.args.labels.now) c.args.events.now ts h
