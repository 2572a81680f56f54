-- What a table of nodes ends as, where a `&mut` to one of them is returned.
use Rattle.std.specs.Prelude.{ℕ}
use Rattle.std.specs.Borrow.{Lends, Fml, MutBor}
use Rattle.sig_nodes.specs.declared.node.Node.{Node}
use Rattle.sig_nodes.specs.contracts.node.Node as node
use Rattle.sig_nodes.specs.contracts.nodes.Nodes as nodes
use Rattle.sig_nodes.specs.Gaps.{NodeTable, with_node}

-- once the borrow r ends, the number has the last node written through r
abbrev pub lends_node : MutBor NodeTable → ℕ → MutBor Node → Fml
lends_node t number r = Lends nodes.the_row node.the_row t r (with_node t.now number)
