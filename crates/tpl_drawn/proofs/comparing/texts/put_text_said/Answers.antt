use Rattle.std.proofs.Common.{map, sym, ◌∙◌}
use Rattle.std.specs.Option.{option_copied}
use Rattle.page_model.specs.Addresses.{address}
use Rattle.tpl_model.specs.KeptLines.Kept.{kept}
use Rattle.tpl_model.specs.ShownNodes.Shapes.{mark_of}
use Rattle.tpl_drawn.specs.Addresses.{address_at}
use Rattle.tpl_drawn.proofs.Compares.Said.{none_marked}
use Rattle.tpl_drawn.proofs.comparing.texts.put_text_said.Goals as goal

pub returns-clause-number : goal.returns-clause-number
returns-clause-number c = λ known k. sym c.in-Some.is ∙ (c.in_ok-number.ensures ∙ k (address_at c.args.line (option_copied c.args.key)))

pub returns-clause-child : goal.returns-clause-child
returns-clause-child c = λ is known k.
    c.in_ok-put_text_child.ensures is known (sym (c.in_ok-number.ensures ∙ k (address_at c.args.line (option_copied c.args.key))))

pub returns-clause-marks : goal.returns-clause-marks
returns-clause-marks c = λ known k.
    c.in_ok-mark_text.ensures known (address c.args.line (option_copied c.args.key))
    (sym (c.in_ok-number.ensures ∙ k (address_at c.args.line (option_copied c.args.key))) ∙ c.in-Some.is)

pub returns-in_default-clause-number : goal.returns-in_default-clause-number
returns-in_default-clause-number c = λ known k.
    sym c.in_default.is ∙ (c.in_ok-number.ensures ∙ k (address_at c.args.line (option_copied c.args.key)))

pub returns-in_default-clause-child : goal.returns-in_default-clause-child
returns-in_default-clause-child c = λ is known k.
    c.in_ok-put_text_child.ensures is known (sym (c.in_ok-number.ensures ∙ k (address_at c.args.line (option_copied c.args.key))))

pub returns-in_default-clause-marks : goal.returns-in_default-clause-marks
returns-in_default-clause-marks c = λ known k.
    none_marked known (address c.args.line (option_copied c.args.key)) (kept c.args.memo.now) (map mark_of c.args.restated.now.items)
    (sym (c.in_ok-number.ensures ∙ k (address_at c.args.line (option_copied c.args.key))) ∙ c.in_default.is)
