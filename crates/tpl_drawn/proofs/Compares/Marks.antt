-- Marks that are split, one after the other.
use Rattle.std.proofs.Common.{◌≡◌, List, [], ◌∷◌, ◌++◌, map, ap}
use Rattle.tpl_model.specs.ShownNodes.Shapes.{Marked}
use Rattle.tpl_drawn.specs.Comparison.{restated_part, touched_part}
use Rattle.page_tree.proofs.Shared.{last_out, step_out}

-- marks that are left; with these all come
pub record AreLeft (left all touched restated first_touched first_restated : List Marked) : Type 0 where
  pub for_children : touched ++ map touched_part left ≡ first_touched ++ map touched_part all
  pub for_looks : restated ++ map restated_part left ≡ first_restated ++ map restated_part all

pub one_split : (m : Marked) (left rest all touched restated next_touched next_restated first_touched first_restated : List Marked) → left ≡ m ∷ rest →
    next_touched ≡ touched ++ touched_part m ∷ [] → next_restated ≡ restated ++ restated_part m ∷ [] →
    AreLeft left all touched restated first_touched first_restated → AreLeft rest all next_touched next_restated first_touched first_restated
one_split m left rest all touched restated next_touched next_restated first_touched first_restated e f g are = record {
  for_children = step_out touched next_touched (touched_part m ∷ []) (map touched_part rest) (map touched_part left) _ f (ap (map touched_part) e) are.for_children;
  for_looks = step_out restated next_restated (restated_part m ∷ []) (map restated_part rest) (map restated_part left) _ g (ap (map restated_part) e) are.for_looks;
}

-- none is left
pub all_split : (left all touched restated first_touched first_restated : List Marked) → left ≡ [] → AreLeft left all touched restated first_touched first_restated →
    (touched ≡ first_touched ++ map touched_part all) × (restated ≡ first_restated ++ map restated_part all)
all_split left all touched restated first_touched first_restated e are = (
  last_out touched (map touched_part left) _ (ap (map touched_part) e) are.for_children,
  last_out restated (map restated_part left) _ (ap (map restated_part) e) are.for_looks,
)
