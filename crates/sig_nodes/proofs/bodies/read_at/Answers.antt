use Rattle.std.proofs.Common.{ap, sym, ◌∙◌}
use Rattle.sig_nodes.specs.Nodes.{is_computed_body, number_body}
use Rattle.sig_nodes.proofs.Edits.{body_got, change_got}
use Rattle.sig_nodes.proofs.bodies.read_at.Goals as goal

pub returns-in-Some-clause-number : goal.returns-in-Some-clause-number
returns-in-Some-clause-number c =
    let xs = c.args.nodes.now.items in
    let number = change_got xs c.args.id c.in-Some.node.now c.in-Some.ensures.some in
    let body = body_got xs c.args.id c.in-Some.node.now c.in-Some.ensures.some in
    c.number_of.ensures ∙ sym (λ i. number_body (number i) (body i))

pub returns-in-Some-clause-computed : goal.returns-in-Some-clause-computed
returns-in-Some-clause-computed c =
    c.is_computed.ensures ∙ sym (ap is_computed_body (body_got c.args.nodes.now.items c.args.id c.in-Some.node.now c.in-Some.ensures.some))
