use Rattle.std.proofs.Common.{◌++◌, sym, ap, ◌∙◌}
use Rattle.std.proofs.lemmas.List.{append-nil, drop_all}
use Rattle.live_model.specs.Journals.{link_entries}
use Rattle.live_labels.proofs.reasons.tell_why.Goals as goal

pub returns : goal.returns
returns c =
    let none = drop_all c.loop-link.link-index c.args.links.now c.loop-link-test.false in
    sym (append-nil c.loop-link.told.items)
    ∙ ap (λ ls. c.loop-link.told.items ++ link_entries c.args.names.now c.loop-link.name ls) (sym none)
    ∙ c.loop-link.invariant
