-- The operations between two pages, as an update reads them off: by number from the tree that stands, and by address from the next page.
use Rattle.std.specs.Prelude.{◌≡◌, ℕ, Bool, List, ◌++◌, map}
use Rattle.std.specs.List.{flat_map}
use Rattle.page_model.specs.Edits.{ascending}
use Rattle.page_model.specs.Forest.{Forest, label_in}
use Rattle.page_model.specs.Labels.{Root, Look, Sound}
use Rattle.page_model.specs.Pages.{NumberedPage, IsPage, IsShape, SameOrigin, ascending_by, edits_between, number_of, page_shape, renumbered, tree_of}
use Rattle.page_model.specs.Replay.{Done, Op, OpRemove, replay}
use Rattle.tpl_model.specs.NextPage.Children.{children_moved, next_children}
use Rattle.tpl_model.specs.NextPage.Lookups.{TellsKept, gone_numbers}
use Rattle.tpl_model.specs.NextPage.Marks.{Sees}
use Rattle.tpl_model.specs.NextPage.KeptNodes.{told_on}

-- the operations on the children of one node
abbrev pub children_done : NumberedPage → Forest Look → ℕ → List Op
children_done p shape a = children_moved (tree_of p) (number_of p a) (next_children p shape a)

-- the operations on the text or the attributes of one node
abbrev pub look_done : NumberedPage → Forest Look → ℕ → List Op
look_done p shape a = told_on (number_of p a) (label_in Root (number_of p a) (tree_of p)) (label_in Root a shape)

-- removals, then the children of each marked node, then texts and attributes, each in ascending order by number
abbrev pub operations : NumberedPage → Forest Look → (ℕ → Bool) → List ℕ → List ℕ → List Op
operations p shape kept children looks =
    (map OpRemove (ascending (flat_map (gone_numbers kept (tree_of p)) (map (number_of p) children)))
    ++ flat_map (children_done p shape) (ascending_by (number_of p) children))
    ++ flat_map (look_done p shape) (ascending_by (number_of p) looks)

-- they are the edits between the two pages, and lead from the tree that stands to that of the next page
pub record Leads (p : NumberedPage) (shape : Forest Look) (kept : ℕ → Bool) (children looks : List ℕ) : Type 0 where
  pub edits : edits_between p (renumbered p shape) ≡ operations p shape kept children looks
  pub replays : replay (operations p shape kept children looks) (tree_of p) ≡ Done (tree_of (renumbered p shape))

abbrev pub OperationsLaw : Type 0
OperationsLaw = (p : NumberedPage) (shape : Forest Look) (kept : ℕ → Bool) (children looks : List ℕ) → IsPage p → Sound (page_shape p) →
    IsShape shape → SameOrigin (page_shape p) shape → TellsKept p shape kept → Sees (page_shape p) shape shape children looks →
    Leads p shape kept children looks
