use Rattle.std.proofs.Common.{[], ◌∷◌, ◌++◌, sym, ap, subst, ◌∙◌}
use Rattle.std.specs.Box.{box_value}
use Rattle.page_model.specs.Labels.{Sound}
use Rattle.tpl_scratch.specs.Pages.{nodes_of, with_nodes}
use Rattle.tpl_scratch.proofs.Shared.{after_none, with_none}
use Rattle.tpl_model.specs.ShownNodes.Shapes.{child_of, shown_tree}
use Rattle.tpl_patch.specs.Moves.{AreSound, arrivals, next_numbers}
use Rattle.tpl_patch.proofs.arrivals.put_child.Goals as goal

pub returns-in_ok-push-in-Kept-clause-numbers : goal.returns-in_ok-push-in-Kept-clause-numbers
returns-in_ok-push-in-Kept-clause-numbers c =
    c.in_ok-push-in-Kept.ensures.items ∙ ap (λ z. c.args.numbers.now.items ++ next_numbers c.args.coming.now.next (child_of z ∷ [])) (sym c.in-Kept.is)

pub returns-in_ok-push-in-Kept-clause-coming : goal.returns-in_ok-push-in-Kept-clause-coming
returns-in_ok-push-in-Kept-clause-coming c =
    sym (with_none (nodes_of c.args.coming.now)) ∙ ap (λ z. with_nodes (nodes_of c.args.coming.now) (arrivals (child_of z ∷ []))) (sym c.in-Kept.is)

pub returns-in_ok-put_node-in-New-clause-numbers : goal.returns-in_ok-put_node-in-New-clause-numbers
returns-in_ok-put_node-in-New-clause-numbers c =
    c.in_ok-push-in-New.ensures.items ∙ ap (λ z. c.args.numbers.now.items ++ next_numbers c.args.coming.now.next (child_of z ∷ [])) (sym c.in-New.is)

pub returns-in_ok-put_node-in-New-clause-coming : goal.returns-in_ok-put_node-in-New-clause-coming
returns-in_ok-put_node-in-New-clause-coming c =
    let before = nodes_of c.args.coming.now in
    let is = c.deref.ensures in
    let sound = (subst (λ z. AreSound (child_of z ∷ [])) c.in-New.is c.requires).0 in
    c.in_ok-put_node-in-New.ensures (subst (λ z. Sound (shown_tree z)) (sym is) sound)
    ∙ (ap (λ z. with_nodes before (shown_tree z)) is
    ∙ (ap (with_nodes before) (sym (after_none (shown_tree (box_value c.in-New.node))))
    ∙ ap (λ z. with_nodes before (arrivals (child_of z ∷ []))) (sym c.in-New.is)))
