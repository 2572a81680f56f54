-- What is read by number from the tree that stands.
use Rattle.std.specs.Prelude.{◌≡◌, ℕ, Bool, true, not, List, map}
use Rattle.std.specs.List.{flat_map}
use Rattle.page_model.specs.Edits.{ascending, listed, siblings}
use Rattle.page_model.specs.Forest.{Forest, on, kids, label_in}
use Rattle.page_model.specs.Labels.{Root, Kind, Look, seen}
use Rattle.page_model.specs.Pages.{NumberedPage, IsPage, ascending_by, number_of, page_shape, those, tree_of}
use Rattle.tpl_model.specs.PageUpdates.Updates.{kept_children}
use Rattle.tpl_model.specs.NextPage.Marks.{common, gone_children}

-- a test of numbers tells the nodes that are on the next page too
abbrev pub TellsKept : NumberedPage → Forest Look → (ℕ → Bool) → Type 0
TellsKept p shape kept = (a : ℕ) → on a (page_shape p) ≡ true → kept (number_of p a) ≡ on a shape

-- the children of a node that are kept, and those that are gone
abbrev pub kept_numbers : (ℕ → Bool) → Forest Kind → ℕ → List ℕ
kept_numbers kept tree n = those kept (siblings (kids n tree))

abbrev pub gone_numbers : (ℕ → Bool) → Forest Kind → ℕ → List ℕ
gone_numbers kept tree n = those (λ c. not (kept c)) (siblings (kids n tree))

-- what the tree says of a node by its number is what the page says of it by its address
pub record Reads (p : NumberedPage) (shape : Forest Look) (kept : ℕ → Bool) (a : ℕ) : Type 0 where
  pub children : kept_numbers kept (tree_of p) (number_of p a) ≡ kept_children p shape a
  pub label : label_in Root (number_of p a) (tree_of p) ≡ seen (label_in Root a (page_shape p))

-- so it is for each node of a page
abbrev pub ReadsLaw : Type 0
ReadsLaw = (p : NumberedPage) (shape : Forest Look) (kept : ℕ → Bool) → IsPage p → TellsKept p shape kept → (a : ℕ) → on a (page_shape p) ≡ true →
    Reads p shape kept a

-- what is removed, by the numbers of nodes whose children are compared
abbrev pub RemovalsLaw : Type 0
RemovalsLaw = (p : NumberedPage) (shape : Forest Look) (kept : ℕ → Bool) (marks : List ℕ) → IsPage p → TellsKept p shape kept →
    ((a : ℕ) → listed a marks ≡ true → on a (page_shape p) ≡ true) →
    map (number_of p) (ascending_by (number_of p) (gone_children (page_shape p) shape marks))
    ≡ ascending (flat_map (gone_numbers kept (tree_of p)) (map (number_of p) marks))

-- the numbers of the nodes of both pages tell what is kept
abbrev pub KeptLaw : Type 0
KeptLaw = (p : NumberedPage) (shape : Forest Look) → IsPage p →
    TellsKept p shape (λ n. listed n (map (number_of p) (common (page_shape p) shape)))
