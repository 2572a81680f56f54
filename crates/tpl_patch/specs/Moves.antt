-- The next children of nodes that stay on a page: which stay, and what comes under the next numbers.
use Rattle.std.specs.Prelude.{◌≡◌, ℕ, ◌+◌, nat_eq, List, [], ◌∷◌, length}
use Rattle.std.specs.List.{flat_map, IsDistinct}
use Rattle.page_model.specs.Edits.{listed, siblings}
use Rattle.page_model.specs.Forest.{Forest, none, after, keys, kids}
use Rattle.page_model.specs.Labels.{Kind, Look, Sound, shown}
use Rattle.page_model.specs.Replay.{Op}
use Rattle.tpl_model.specs.NextPage.Arrivals.{coming}
use Rattle.tpl_model.specs.NextPage.Children.{children_moved}
use Rattle.tpl_model.specs.Sources.{in_order}
use Rattle.tpl_model.specs.ShownNodes.Shapes.{Marked, Next, stays, comes}

-- the nodes that come, one after the other
abbrev pub arrivals : List Next → Forest Look
arrivals [] = none
arrivals (stays m ∷ cs) = arrivals cs
arrivals (comes t ∷ cs) = after t (arrivals cs)

-- the numbers of the next children, where what comes has the numbers from n on
abbrev pub next_numbers : ℕ → List Next → List ℕ
next_numbers n [] = []
next_numbers n (stays m ∷ cs) = m ∷ next_numbers n cs
next_numbers n (comes t ∷ cs) = n ∷ next_numbers (n + length (keys t)) cs

-- the next number after those of what comes
abbrev pub number_after : ℕ → List Next → ℕ
number_after n cs = n + length (keys (arrivals cs))

-- each node that comes has children only where it can hold them, and each name once
abbrev pub AreSound : List Next → Type 0
AreSound [] = Unit {0}
AreSound (stays m ∷ cs) = AreSound cs
AreSound (comes t ∷ cs) = Sound t × AreSound cs

-- so it is below each marked node
abbrev pub AllSound : List Marked → Type 0
AllSound [] = Unit {0}
AllSound (m ∷ ms) = AreSound m.children × AllSound ms

-- These are the next children of a node that has those of these numbers: they stay under their numbers, or come under the numbers from n on, and
-- no number stands twice.
pub record Fits (olds : List ℕ) (n : ℕ) (cs : List Next) (children : Forest Kind) : Type 0 where
  pub old_once : IsDistinct nat_eq olds
  pub once : IsDistinct nat_eq (siblings children)
  pub numbers : siblings children ≡ next_numbers n cs
  pub arrive : coming (λ m. listed m olds) children ≡ shown (in_order n (arrivals cs))

-- the next tree has the next children of each marked node of this one; what comes has the numbers from n on, in the order of the marks
abbrev pub AllFit : Forest Kind → ℕ → List Marked → Forest Kind → Type 0
AllFit tree n [] next = Unit {0}
AllFit tree n (m ∷ ms) next =
    Fits (siblings (kids m.number tree)) n m.children (kids m.number next) × AllFit tree (number_after n m.children) ms next

-- the next number after those of what comes to all marked nodes
abbrev pub number_behind : ℕ → List Marked → ℕ
number_behind n [] = n
number_behind n (m ∷ ms) = number_behind (number_after n m.children) ms

-- the operations on the children of each marked node, between two trees
abbrev pub moved_between : Forest Kind → Forest Kind → List Marked → List Op
moved_between tree next ms = flat_map (λ (m : Marked). children_moved tree m.number (kids m.number next)) ms
