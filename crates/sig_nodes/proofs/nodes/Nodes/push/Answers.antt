use Rattle.std.proofs.Common.{◌++◌, ◌∷◌, [], ap, ◌∙◌}
use Rattle.sig_nodes.specs.Gaps.{NodeTable, nodes_of}
use Rattle.sig_nodes.proofs.Gaps.{nodes_push}
use Rattle.sig_nodes.proofs.nodes.Nodes.push.Goals as goal

pub returns : goal.returns
returns c =
    ap nodes_of c.push.ensures.entries ∙ nodes_push c.self.inside.store.entries c.args.node
    ∙ ap (λ (t : NodeTable). t.items ++ c.args.node ∷ []) c.self.view_is
