use Rattle.std.proofs.Common.{◌||◌, not, is_some, sym, ap, ◌∙◌}
use Rattle.signal_model.specs.Memos.{Source, same_number}
use Rattle.sig_nodes.specs.Nodes.{known_body, number_body}
use Rattle.sig_nodes.proofs.Edits.{body_got, change_got}
use Rattle.sig_nodes.proofs.node.Source.has_moved.Goals as goal

pub returns : goal.returns
returns c = λ xs got.
    let s = c.args.self.now in
    let number = change_got xs s.name c.args.node.now got in
    let body = body_got xs s.name c.args.node.now got in
    c.node_moved.ensures
    ∙ ap (λ (z : Source). not (same_number (number_body c.args.node.now.number c.args.node.now.body) z.number) || is_some (known_body c.args.node.now.body)) c.self.view_is
    ∙ sym (λ i. not (same_number (number_body (number i) (body i)) s.number) || is_some (known_body (body i)))
