-- How what stands under numbers makes the nodes of a graph.
use Rattle.std.specs.Prelude.{ℕ, List, [], ◌∷◌, Option, Some, None, slice_set}
use Rattle.sig_nodes.specs.declared.node.Node.{Node}
use Rattle.sig_nodes.specs.Nodes.{gone}

-- a node for each number that was given, and how many more surely fit without memory
pub record NodeTable : Type 0 where
  pub items : List Node
  pub room : ℕ

-- what stands under a number; where nothing does, that of a signal that is gone
abbrev pub node_of : Option Node → Node
node_of None = gone
node_of (Some x) = x

-- the same of each number
abbrev pub nodes_of : List (Option Node) → List Node
nodes_of [] = []
nodes_of (e ∷ es) = node_of e ∷ nodes_of es

-- both
abbrev pub table : List Node → ℕ → NodeTable
table xs room = record { items = xs; room = room }

-- another node stands under a number
abbrev pub with_node : NodeTable → ℕ → Node → NodeTable
with_node t n x = record t { items = slice_set t.items n x }
