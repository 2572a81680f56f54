-- What is marked of the next page, by address: the nodes that are compared with those of the page that stands.
use Rattle.std.specs.Prelude.{◌≡◌, ◌≤◌, ℕ, true, false, not, List}
use Rattle.std.specs.List.{flat_map}
use Rattle.page_model.specs.Forest.{Forest, on, tally, keys, kids}
use Rattle.page_model.specs.Labels.{Look}
use Rattle.page_model.specs.Edits.{listed, siblings}
use Rattle.page_model.specs.Pages.{NumberedPage, IsPage, IsShape, SameOrigin, page_shape, those}
use Rattle.tpl_model.specs.PageUpdates.Differences.{Found, SameChildren, SameLook, often}
use Rattle.tpl_model.specs.PageUpdates.Updates.{Gives}

-- Marks of nodes in a part of the next page: each is of a node that stands on the page, and no node has two. What stands there and isn't marked
-- has what it had.
pub record Covers (old part : Forest Look) (Same : ℕ → Type 0) (marks : List ℕ) : Type 0 where
  pub few : (j : ℕ) → often j marks ≤ tally j part
  pub there : (j : ℕ) → listed j marks ≡ true → on j old ≡ true
  pub rest : (j : ℕ) → on j part ≡ true → on j old ≡ true → listed j marks ≡ false → Same j

-- marks of nodes whose children may differ, and marks of nodes whose look may differ
pub record Sees (old new part : Forest Look) (cs ls : List ℕ) : Type 0 where
  pub children : Covers old part (SameChildren old new) cs
  pub looks : Covers old part (SameLook old new) ls

-- the children of these nodes that are gone
abbrev pub gone_children : Forest Look → Forest Look → List ℕ → List ℕ
gone_children old new marks = flat_map (λ a. those (λ b. not (on b new)) (siblings (kids a old))) marks

-- What marks find: the topmost nodes that are gone are those of the marked nodes' children that are gone.
abbrev pub found_by : Forest Look → Forest Look → List ℕ → List ℕ → Found
found_by old new children looks = record { gone = gone_children old new children; touched = children; restated = looks }

-- what marks find on the whole of the next page gives the operations, and the order of the new numbers
abbrev pub MarksLaw : Type 0
MarksLaw = (p : NumberedPage) (shape : Forest Look) (children looks : List ℕ) → IsPage p → IsShape shape → SameOrigin (page_shape p) shape →
    Sees (page_shape p) shape shape children looks → Gives p shape (found_by (page_shape p) shape children looks)

-- the nodes of both pages, in the order of the next one
abbrev pub common : Forest Look → Forest Look → List ℕ
common old new = those (λ a. on a old) (keys new)

-- all nodes of both pages may be marked
abbrev pub WholeLaw : Type 0
WholeLaw = (old new : Forest Look) → Sees old new new (common old new) (common old new)
