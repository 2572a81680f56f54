-- What the trees have to be that operations are done on.
use Rattle.std.specs.Prelude.{ℕ, ◌≤◌, ◌≡◌}
use Rattle.page_model.specs.Forest.{Forest, none, node, tally, height}
use Rattle.page_model.specs.Labels.{Root, Text, Element, Kind, Distinct}
use Rattle.page_model.specs.Pages.{IsRooted}
use Rattle.page_model.specs.Replay.{Op, OpInsert}

-- a node below the root: a text without children, or an element whose attribute names are distinct
abbrev pub IsNode : Kind → Forest Kind → Type 0
IsNode Root below = ⊥
IsNode (Text t) below = below ≡ none
IsNode (Element name attributes) below = Distinct attributes

-- siblings below the root, and all that stands below them
abbrev pub AreNodes : Forest Kind → Type 0
AreNodes none = Unit {0}
AreNodes (node n x k r) = IsNode x k × AreNodes k × AreNodes r

-- a numbered tree: one root with the number 0, no number twice, and no node more than 32 steps below the root
pub record IsTree (tree : Forest Kind) : Type 0 where
  pub rooted : IsRooted Root tree
  pub once : (n : ℕ) → tally n tree ≤ 1
  pub low : height tree ≤ 33
  pub nodes : AreNodes rooted.below

-- what an insertion brings are nodes
abbrev pub Brings : Op → Type 0
Brings (OpInsert p i n x k) = AreNodes (node n x k none)
Brings o = Unit {0}
