use Rattle.std.proofs.Common.{sym, ap, ◌∙◌}
use Rattle.std.specs.Option.{option_copied}
use Rattle.page_model.specs.Addresses.{address}
use Rattle.page_model.specs.Forest.{after, node, none}
use Rattle.page_model.specs.Labels.{Text}
use Rattle.tpl_model.specs.Shapes.{node_text}
use Rattle.tpl_model.specs.KeptLines.Kept.{kept}
use Rattle.tpl_model.proofs.MemoEquations.{kept_line}
use Rattle.tpl_model.specs.ShownNodes.Shapes.{all_shown}
use Rattle.tpl_drawn.specs.Heads.{text_at}
use Rattle.tpl_drawn.proofs.shown.parts.put_text.Goals as goal

pub returns-in_ok-put-in-Line : goal.returns-in_ok-put-in-Line
returns-in_ok-put-in-Line c =
    c.in_ok-put-in-Line.ensures
    ∙ ap (after (all_shown c.args.out.now.items))
    (c.text-node.ensures
    ∙ ((λ i. node (c.in_ok-address-in-Line.ensures i) (Text ((c.in_ok-said-in-Line.ensures ∙ ap node_text c.in_ok-outcome-in-Line.ensures) i)) none none)
    ∙ sym (ap (text_at (address c.args.line (option_copied c.args.key))) (ap kept c.in-Line.is ∙ kept_line c.in-Line.heard c.in-Line.field-1))))
