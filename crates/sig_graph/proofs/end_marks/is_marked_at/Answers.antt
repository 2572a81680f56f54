use Rattle.std.proofs.Common.{◌≡◌, ◌&&◌, Bool, true, false, refl, sym, ◌∙◌}
use Rattle.sig_marks.specs.Tables.{marked_at}
use Rattle.sig_nodes.specs.Nodes.{body_at, is_computed_body}
use Rattle.sig_graph.proofs.end_marks.is_marked_at.Goals as goal

off : (b m : Bool) → m ≡ false → false ≡ (b && m)
off true m e = sym e
off false m e = refl

pub returns-then-not-is_marked : goal.returns-then-not-is_marked
returns-then-not-is_marked c =
    off (is_computed_body (body_at c.args.nodes.now.items c.args.id)) (marked_at c.args.marks.now.marked c.args.id) (sym c.is_marked.ensures ∙ c.if-not-is_marked.true)

pub returns-in-Some : goal.returns-in-Some
returns-in-Some c =
    let on = sym c.is_marked.ensures ∙ c.if-not-is_marked.false in
    sym (λ i. is_computed_body (c.in-Some.ensures.some i) && on i)

pub returns-in-None : goal.returns-in-None
returns-in-None c = sym (λ i. c.in-None.ensures.none i && marked_at c.args.marks.now.marked c.args.id)
