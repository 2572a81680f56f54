use Rattle.std.proofs.Common.{length, sym, ap, ◌∙◌}
use Rattle.sig_nodes.specs.Gaps.{NodeTable}
use Rattle.sig_nodes.proofs.Gaps.{nodes_length}
use Rattle.sig_nodes.proofs.nodes.Nodes.made.Goals as goal

pub returns : goal.returns
returns c = c.made.ensures ∙ sym (nodes_length c.self.inside.store.entries) ∙ ap (λ (t : NodeTable). length t.items) c.self.view_is
