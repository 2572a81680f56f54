use Rattle.std.proofs.Common.{sym, ap, ◌∙◌}
use Rattle.page_model.specs.Edits.{siblings}
use Rattle.page_tree.specs.Subs.{sub_tree, tree_number}
use Rattle.page_tree.proofs.Subtrees.{number_text, number_element, alone_text, alone_element}
use Rattle.page_tree.proofs.sub.Sub.number.Goals as goal

pub returns-in-Text-clause-number : goal.returns-in-Text-clause-number
returns-in-Text-clause-number c = number_text c.in-Text.number c.in-Text.field-1 ∙ ap (λ s. tree_number (sub_tree s)) (sym c.in-Text.is)

pub returns-in-Text-clause-alone : goal.returns-in-Text-clause-alone
returns-in-Text-clause-alone c = ap (λ s. siblings (sub_tree s)) c.in-Text.is ∙ alone_text c.in-Text.number c.in-Text.field-1

pub returns-in-Element-clause-number : goal.returns-in-Element-clause-number
returns-in-Element-clause-number c = number_element c.in-Element.number c.in-Element.field-1 c.in-Element.field-2 c.in-Element.field-3 ∙ ap (λ s. tree_number (sub_tree s)) (sym c.in-Element.is)

pub returns-in-Element-clause-alone : goal.returns-in-Element-clause-alone
returns-in-Element-clause-alone c = ap (λ s. siblings (sub_tree s)) c.in-Element.is ∙ alone_element c.in-Element.number c.in-Element.field-1 c.in-Element.field-2 c.in-Element.field-3
