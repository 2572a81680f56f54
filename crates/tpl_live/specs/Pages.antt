-- A page that stands: what it keeps, and the page that this shows.
use Rattle.std.specs.Prelude.{◌≡◌, ◌<◌, ◌==◌, ℕ, suc, true, false, List, [], ◌∷◌, Option, Some, None, unwrap_or}
use Rattle.std.specs.Map.{keys_of}
use Rattle.sig_base.specs.declared.value.Fault.TheVariants.{Gone}
use Rattle.sig_base.specs.declared.value.Outcome.{Outcome}
use Rattle.sig_base.specs.declared.value.Outcome.TheVariants.{Bad}
use Rattle.page_model.specs.Forest.{Forest, none, node, on}
use Rattle.page_model.specs.Labels.{Root, Kind, Look, Sound, shown}
use Rattle.page_model.specs.Pages.{NumberedPage, number_of, page_shape}
use Rattle.page_model.specs.Replay.{Done, Op, OpInsert, replay}
use Rattle.page_model.specs.Trees.{AreNodes}
use Rattle.page_tree.specs.Queries.{IsDone}
use Rattle.event_model.specs.Ways.{line_in}
use Rattle.tpl_model.specs.Lines.{Block, Line, block_of}
use Rattle.tpl_model.specs.Laws.{IsTemplate}
use Rattle.tpl_model.specs.Sources.{firsts, in_order}
use Rattle.tpl_hearing.specs.Heard.{Outcomes, heard_of}
use Rattle.tpl_model.specs.declared.shown.Address.{Address}
use Rattle.tpl_drawn.specs.Marks.{Knows}
use Rattle.tpl_drawn.specs.Addresses.{among}
use Rattle.tpl_model.specs.PageUpdates.PageMemos.{PageMemo, names, nodes}
use Rattle.tpl_model.specs.PageUpdates.Updates.{Keeps}
use Rattle.tpl_drawn.specs.Comparison.{known_of}

-- what is kept of a page: the lines and what their names stand for, what was heard of the names, what is kept of the lines, the next unused
-- number, the tree, and the numbers that were noted of addresses, with the lines of these
pub record Standing : Type 0 where
  pub lines : Block
  pub links : List ℕ
  pub heard : Outcomes
  pub memo : PageMemo
  pub next : ℕ
  pub tree : Forest Kind
  pub number : Address → Option ℕ
  pub line : ℕ → Option ℕ

-- the nodes that lines show, by what is kept of them
abbrev pub shown_in : Block → PageMemo → Forest Look
shown_in b m = nodes None b m

-- the shape of these nodes
abbrev pub lines_shape : Block → PageMemo → Forest Look
lines_shape b m = node 0 Root (shown_in b m) none

-- the shape that is shown
abbrev pub shape_in : Standing → Forest Look
shape_in s = lines_shape s.lines s.memo

-- the nodes of a shape with the numbers of a tree, whose nodes stand at the same places
abbrev pub numbered_as : Forest Look → Forest Kind → Forest (ℕ × Look)
numbered_as (node a x k r) (node n y l s) = node a (n, x) (numbered_as k l) (numbered_as r s)
numbered_as _ _ = none

-- the page
abbrev pub page_in : Standing → NumberedPage
page_in s = record { nodes = numbered_as (shape_in s) s.tree; next = s.next }

-- the outcome that was heard of a name, and for any other that of what is gone
abbrev pub outcome_in : Outcomes → ℕ → Outcome
outcome_in heard n = unwrap_or (heard_of heard n) (Bad Gone)

-- the numbers of a page's nodes are known by address: those noted of nodes that stand on its tree; each that was noted was given
pub record AreKnown (p : NumberedPage) (tree : Forest Kind) (number : Address → Option ℕ) : Type 0 where
  pub knows : Knows (among tree number) (known_of p)
  pub given : (a : Address) (n : ℕ) → number a ≡ Some n → n < p.next

-- the lines of the nodes below the root are known by number: each is that of the node's address
abbrev pub AreLined : NumberedPage → (ℕ → Option ℕ) → Type 0
AreLined p line = (a : ℕ) → on a (page_shape p) ≡ true → (0 == a) ≡ false → line (number_of p a) ≡ Some (line_in a)

-- a page of these lines stands on what was heard of the names that it read, and the numbers of its nodes are known, and their lines
pub record Stands (lines : List Line) (links : List ℕ) (s : Standing) : Type 0 where
  pub template : IsTemplate lines
  pub block : s.lines ≡ block_of lines
  pub linked : s.links ≡ links
  pub keeps : Keeps lines links (outcome_in s.heard) s.memo (page_in s) s.tree
  pub sound : Sound (page_shape (page_in s))
  pub names : keys_of s.heard ≡ firsts [] (names s.memo)
  pub known : AreKnown (page_in s) s.tree s.number
  pub lined : AreLined (page_in s) s.line

-- so it is for some lines
pub record IsStanding (s : Standing) : Type 0 where
  pub lines : List Line
  pub links : List ℕ
  pub stands : Stands lines links s

-- the insertions of these nodes below the root, from a place on
abbrev pub inserts : ℕ → Forest Kind → List Op
inserts i none = []
inserts i (node n x k r) = OpInsert 0 i n x k ∷ inserts (suc i) r

-- the nodes that lines show as they stand below the root, numbered in document order
abbrev pub below_in : Block → PageMemo → Forest Kind
below_in b m = shown (in_order 1 (shown_in b m))

-- operations that can be done one after the other
abbrev pub Leads : List Op → Forest Kind → Type 0
Leads os tree = IsDone (replay os tree)

-- nodes that can be inserted below the root alone, one behind the other
pub record AreInserted (below : Forest Kind) : Type 0 where
  pub nodes : AreNodes below
  pub leads : replay (inserts 0 below) (node 0 Root none none) ≡ Done (node 0 Root below none)

-- these are the insertions of such nodes
pub record AreInsertions (os : List Op) : Type 0 where
  pub below : Forest Kind
  pub inserted : AreInserted below
  pub are : os ≡ inserts 0 below
