use Rattle.std.proofs.Common.{sym, ap, ◌∙◌}
use Rattle.std.specs.Option.{option_copied}
use Rattle.tpl_blocks.specs.Blocks.{block}
use Rattle.tpl_drawn.specs.Comparison.{keeps_nodes}
use Rattle.tpl_drawn.proofs.Compares.Tops.{made_keep}
use Rattle.tpl_drawn.proofs.Compares.Walks.{first_none, first_some}
use Rattle.tpl_drawn.proofs.comparing.keeping.first_keeps.Goals as goal

pub returns : goal.returns
returns c =
    c.keeps_nodes.ensures
    ∙ ap (keeps_nodes (block c.args.lines.now)) (first_some c.args.inside.now c.in-Some.change.now (sym c.first.ensures.value ∙ ap option_copied c.in-Some.is))

pub returns-in_default : goal.returns-in_default
returns-in_default c =
    c.is_plain.ensures ∙ (sym (made_keep (block c.args.lines.now))
    ∙ ap (keeps_nodes (block c.args.lines.now)) (first_none c.args.inside.now (sym c.first.ensures.value ∙ ap option_copied c.in_default.is)))
