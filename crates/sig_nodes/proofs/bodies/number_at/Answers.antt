use Rattle.std.proofs.Common.{sym, ◌∙◌}
use Rattle.sig_nodes.specs.Nodes.{number_body}
use Rattle.sig_nodes.proofs.Edits.{body_got, change_got}
use Rattle.sig_nodes.proofs.bodies.number_at.Goals as goal

pub returns-in-Some : goal.returns-in-Some
returns-in-Some c =
    let xs = c.args.nodes.now.items in
    let number = change_got xs c.args.id c.in-Some.node.now c.in-Some.ensures.some in
    let body = body_got xs c.args.id c.in-Some.node.now c.in-Some.ensures.some in
    c.number_of.ensures ∙ sym (λ i. number_body (number i) (body i))
