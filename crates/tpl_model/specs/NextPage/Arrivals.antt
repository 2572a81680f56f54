-- What comes to the page, and its numbers.
use Rattle.std.specs.Prelude.{◌≡◌, ◌≤◌, ◌+◌, ℕ, Bool, true, false, List, ◌++◌, length, if◌then◌else◌}
use Rattle.page_model.specs.Edits.{listed}
use Rattle.page_model.specs.Forest.{Forest, none, node, on, keys, numbered}
use Rattle.page_model.specs.Labels.{Kind, Look}
use Rattle.page_model.specs.Pages.{NumberedPage, IsPage, IsShape, SameOrigin, carried, new_order, page_shape}
use Rattle.tpl_model.specs.Sources.{in_order}
use Rattle.tpl_model.specs.PageUpdates.Differences.{often}

-- the new addresses are on the next page alone, and each comes once
pub record IsOrder (p : NumberedPage) (shape : Forest Look) : Type 0 where
  pub new : (a : ℕ) → listed a (new_order p shape) ≡ true → on a (page_shape p) ≡ false
  pub once : (a : ℕ) → often a (new_order p shape) ≤ 1

abbrev pub OrderLaw : Type 0
OrderLaw = (p : NumberedPage) (shape : Forest Look) → IsPage p → IsShape shape → SameOrigin (page_shape p) shape → IsOrder p shape

-- nodes whose addresses come one after the other in the order of the new ones are numbered in document order
abbrev pub SerialLaw : Type 0
SerialLaw = (p : NumberedPage) (shape part : Forest Look) (pre post : List ℕ) → IsPage p → IsShape shape → SameOrigin (page_shape p) shape →
    new_order p shape ≡ pre ++ (keys part ++ post) → numbered (carried p shape) part ≡ in_order (p.next + length pre) part

-- the new ones among siblings
abbrev pub coming : (ℕ → Bool) → Forest Kind → Forest Kind
coming kept none = none
coming kept (node n x k r) = if kept n then coming kept r else node n x k (coming kept r)
