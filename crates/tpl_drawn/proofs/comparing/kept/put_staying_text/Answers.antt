use Rattle.std.proofs.Common.{map, sym, ◌∙◌}
use Rattle.std.specs.Option.{option_copied}
use Rattle.tpl_model.specs.ShownNodes.Shapes.{child_of}
use Rattle.tpl_drawn.specs.Addresses.{address_at}
use Rattle.tpl_drawn.proofs.Compares.Siblings.{unlisted}
use Rattle.tpl_drawn.proofs.comparing.kept.put_staying_text.Goals as goal

pub returns : goal.returns
returns c = λ is known k.
    c.in_ok-put_text_child.ensures is known (sym (k (address_at c.args.line (option_copied c.args.key))) ∙ sym c.in_ok-number.ensures)

pub returns-then-not-listed : goal.returns-then-not-listed
returns-then-not-listed c = λ is known k. unlisted c.args.listed (map child_of c.args.children.now.items) _ c.if-not-listed.true
