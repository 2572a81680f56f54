use Rattle.std.proofs.Common.{◌≡◌, ◌||◌, not, Bool, true, false, None, is_some, refl, sym, ap, ◌∙◌}
use Rattle.signal_model.specs.Memos.{same_number}
use Rattle.sig_nodes.specs.Nodes.{change_at, known_body, number_body}
use Rattle.sig_nodes.proofs.Edits.{body_got, change_got}
use Rattle.sig_nodes.proofs.bodies.source_moved.Goals as goal

or_false : (b : Bool) → (b || false) ≡ b
or_false true = refl
or_false false = refl

pub returns-in-Some : goal.returns-in-Some
returns-in-Some c =
    let xs = c.args.nodes.now.items in
    let number = change_got xs c.args.name c.in-Some.node.now c.in-Some.ensures.some in
    let body = body_got xs c.args.name c.in-Some.node.now c.in-Some.ensures.some in
    c.node_moved.ensures ∙ sym (λ i. not (same_number (number_body (number i) (body i)) c.args.number) || is_some (known_body (body i)))

pub returns-in-None : goal.returns-in-None
returns-in-None c =
    let gone = c.in-None.ensures.gone in
    ap not c.same_number.ensures ∙ sym (or_false (not (same_number None c.args.number)))
    ∙ sym (λ i. not (same_number (number_body (change_at c.args.nodes.now.items c.args.name) (gone i)) c.args.number) || is_some (known_body (gone i)))
