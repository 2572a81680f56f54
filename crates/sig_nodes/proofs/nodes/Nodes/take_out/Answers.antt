use Rattle.std.proofs.Common.{ap, ◌∙◌}
use Rattle.sig_nodes.specs.Gaps.{nodes_of, NodeTable}
use Rattle.sig_nodes.specs.Nodes.{body_at, changed_at, gone_node, is_live_body}
use Rattle.sig_nodes.proofs.Gaps.{live_stands, nodes_gone}
use Rattle.sig_nodes.proofs.nodes.Nodes.take_out.Goals as goal

pub remove-requires : goal.remove-requires
remove-requires c =
    live_stands c.self.inside.store.entries c.number.result
    (ap (λ n. is_live_body (body_at (nodes_of c.self.inside.store.entries) n)) c.number.ensures ∙ ap (λ (t : NodeTable). is_live_body (body_at t.items c.args.id)) c.self.view_is ∙ c.requires)

pub returns : goal.returns
returns c =
    ap nodes_of c.remove.ensures.entries ∙ nodes_gone c.self.inside.store.entries c.number.result
    ∙ ap (λ n. changed_at gone_node n (nodes_of c.self.inside.store.entries)) c.number.ensures ∙ ap (λ (t : NodeTable). changed_at gone_node c.args.id t.items) c.self.view_is
