use Rattle.std.proofs.Common.{sym, ap, ◌∙◌}
use Rattle.page_model.specs.Labels.{named}
use Rattle.page_ops.proofs.Attributes.{fit_put}
use Rattle.page_ops.proofs.nodes.put_attribute.Goals as goal

pub returns-clause-fit : goal.returns-clause-fit
returns-clause-fit c =
    let new = ap (named c.args.name) (sym c.deref.ensures.value) ∙ sym c.if-is_named.ensures in
    rw c.in_ok-push.ensures.items (fit_put c.args.name c.args.value c.args.list.now.items c.requires.fit new c.requires.name c.requires.value)
