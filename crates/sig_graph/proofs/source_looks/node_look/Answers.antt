use Rattle.std.proofs.Common.{sym, ◌∙◌}
use Rattle.sig_graph.proofs.KeptLooks.{gone_here, marks_parts, open_here, ready_here}
use Rattle.sig_graph.proofs.source_looks.node_look.Goals as goal

pub returns-in_default : goal.returns-in_default
returns-in_default c = λ g kept.
    let xs = c.args.nodes.now.items in
    gone_here xs c.args.marks.now.marked c.args.computation.now.memo c.args.id _ c.has_gone.result c.in_default.ensures.gone c.requires
    (c.has_gone.ensures xs c.args.id c.in_default.ensures.gone c.requires)

pub returns-then-is_found : goal.returns-then-is_found
returns-then-is_found c = λ g kept.
    let xs = c.args.nodes.now.items in
    let id = c.args.id in
    let node = c.in-Some.node.now in
    let got = c.in-Some.ensures.some in
    let idle = open_here xs id node _ got c.requires (c.is_found.ensures.idle c.if-is_found.true) in
    (idle, kept.due id idle.computed (c.is_found.ensures.found c.if-is_found.true))

pub returns-then-is_open : goal.returns-then-is_open
returns-then-is_open c = λ g kept.
    open_here c.args.nodes.now.items c.args.id c.in-Some.node.now _ c.in-Some.ensures.some c.requires (marks_parts _ _ (sym c.is_open.ensures ∙ c.if-is_open.true))

pub returns : goal.returns
returns c = λ g kept.
    let xs = c.args.nodes.now.items in
    let got = c.in-Some.ensures.some in
    ready_here xs c.args.marks.now.marked c.args.computation.now.memo c.args.id c.in-Some.node.now _ c.has_moved.result got c.requires (sym c.is_open.ensures ∙ c.if-is_open.false)
    (c.has_moved.ensures xs c.args.id got c.requires)
