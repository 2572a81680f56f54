use Rattle.std.proofs.Common.{sym, ap, ◌∙◌}
use Rattle.std.specs.Option.{is_some}
use Rattle.page_model.specs.Forest.{label_in}
use Rattle.page_model.specs.Labels.{Root}
use Rattle.page_ops.proofs.Refusals.{count_fewer, count_same}
use Rattle.page_ops.proofs.judge.other_attributes.Goals as goal

pub returns-then-is_some : goal.returns-then-is_some
returns-then-is_some c = count_fewer c.args.name.now (label_in Root c.args.id c.args.tree.now) c.in-Some.count c.in-Some.ensures (sym (c.is_some.ensures ∙ ap is_some c.attr_place.ensures) ∙ c.if-is_some.true)

pub returns : goal.returns
returns c = count_same c.args.name.now (label_in Root c.args.id c.args.tree.now) c.in-Some.count c.in-Some.ensures (sym (c.is_some.ensures ∙ ap is_some c.attr_place.ensures) ∙ c.if-is_some.false)
