-- The children of a node that stands on a page and on the next one.
use Rattle.std.specs.Prelude.{◌≡◌, ℕ, ltb, nat_eq, true, List}
use Rattle.std.specs.List.{IsDistinct}
use Rattle.page_model.specs.Edits.{child_edits, listed, siblings}
use Rattle.page_model.specs.Forest.{Forest, kids, numbered, on}
use Rattle.page_model.specs.Labels.{Kind, Look, shown}
use Rattle.page_model.specs.Pages.{NumberedPage, IsPage, IsShape, SameOrigin, carried, number_of, page_shape, those, tree_of}
use Rattle.page_model.specs.Replay.{Op}
use Rattle.tpl_model.specs.PageUpdates.Updates.{kept_children}

-- the operations on the children of a node of a tree that has these next: of its old ones those are left whose numbers are among the next
abbrev pub children_moved : Forest Kind → ℕ → Forest Kind → List Op
children_moved tree n next = child_edits n 0 (those (λ m. listed m (siblings next)) (siblings (kids n tree))) next

-- the children of a node by its address: those that stand, by number, and the next ones
abbrev pub old_children : NumberedPage → ℕ → List ℕ
old_children p a = siblings (kids (number_of p a) (tree_of p))

abbrev pub next_children : NumberedPage → Forest Look → ℕ → Forest Kind
next_children p shape a = shown (numbered (carried p shape) (kids a shape))

-- each number stands once among them; the old ones are left whose addresses are on the next page; and of the next ones just those stood there
-- whose numbers were given before
pub record Follows (p : NumberedPage) (shape : Forest Look) (a : ℕ) : Type 0 where
  pub old_once : IsDistinct nat_eq (old_children p a)
  pub next_once : IsDistinct nat_eq (siblings (next_children p shape a))
  pub left : those (λ m. listed m (siblings (next_children p shape a))) (old_children p a) ≡ kept_children p shape a
  pub stood : (j : ℕ) → listed j (siblings (next_children p shape a)) ≡ true → listed j (old_children p a) ≡ ltb j p.next

abbrev pub ChildrenLaw : Type 0
ChildrenLaw = (p : NumberedPage) (shape : Forest Look) → IsPage p → IsShape shape → SameOrigin (page_shape p) shape → (a : ℕ) →
    on a (page_shape p) ≡ true → on a shape ≡ true → Follows p shape a
