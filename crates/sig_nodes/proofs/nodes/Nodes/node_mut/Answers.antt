use Rattle.std.proofs.Common.{List, refl, sym, ap, ◌∙◌}
use Rattle.std.specs.Prelude.{slice_get, slice_set}
use Rattle.sig_nodes.specs.declared.node.Node.{Node}
use Rattle.sig_nodes.specs.Gaps.{nodes_of, table, with_node, NodeTable}
use Rattle.sig_nodes.specs.Nodes.{body_at, is_live_body}
use Rattle.sig_nodes.proofs.Gaps.{live_stands, node_stands, nodes_set}
use Rattle.sig_nodes.proofs.nodes.Nodes.node_mut.Goals as goal

pub value_mut-requires : goal.value_mut-requires
value_mut-requires c =
    live_stands c.self.inside.store.entries c.number.result
    (ap (λ n. is_live_body (body_at (nodes_of c.self.inside.store.entries) n)) c.number.ensures ∙ ap (λ (t : NodeTable). is_live_body (body_at t.items c.args.id)) c.self.view_is ∙ c.requires)

pub returns : goal.returns
returns c =
    let es = c.self.inside.store.entries in
    let n = c.number.result in (
      (
        refl,
        λ w.
            ap (λ (xs : List Node). table xs c.self.inside.store.room) (nodes_set es n w ∙ ap (λ k. slice_set (nodes_of es) k w) c.number.ensures)
            ∙ ap (λ (t : NodeTable). with_node t c.args.id w) c.self.view_is,
      ),
      record {
        writes_back = tt;
        value =
            sym (ap (λ (t : NodeTable). slice_get t.items c.args.id) c.self.view_is) ∙ ap (slice_get (nodes_of es)) (sym c.number.ensures)
            ∙ node_stands es n c.value_mut.result.now c.value_mut.ensures.value;
      },
    )
