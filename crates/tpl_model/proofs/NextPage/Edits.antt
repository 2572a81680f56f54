-- The operations that an update reads off are the edits between the two pages.
use Rattle.std.proofs.Common.{◌≡◌, ℕ, Bool, true, List, ◌++◌, map, sym, ap, ◌∙◌, arith}
use Rattle.page_model.specs.Edits.{child_edits, listed}
use Rattle.page_model.specs.Forest.{Forest, on, label_in}
use Rattle.page_model.specs.Labels.{Root, Look, Sound}
use Rattle.page_model.specs.Pages.{NumberedPage, IsPage, IsShape, SameOrigin, ascending_by, carried, number_of, page_shape, tree_of}
use Rattle.page_model.specs.Replay.{OpRemove, replay}
use Rattle.page_model.proofs.Shared.{replay_leads, tally_on, names_at, in_ascending_by}
use Rattle.tpl_model.specs.PageUpdates.Differences.{children_at, restated_at}
use Rattle.tpl_model.specs.NextPage.Children.{next_children}
use Rattle.tpl_model.specs.NextPage.Operations.{OperationsLaw, children_done, look_done}
use Rattle.tpl_model.specs.NextPage.Lookups.{TellsKept}
use Rattle.tpl_model.specs.NextPage.Marks.{Covers}
use Rattle.tpl_model.specs.NextPage.KeptNodes.{told_on}
use Rattle.tpl_model.proofs.NextPage.Children.{children_law}
use Rattle.tpl_model.proofs.NextPage.Marks.{marks_law}
use Rattle.tpl_model.proofs.NextPage.Lookups.{reads_law, removals_law}
use Rattle.tpl_model.proofs.NextPage.KeptNodes.{told_law}
use Rattle.tpl_model.proofs.Orders.{flat_same, listed_often}

-- marked nodes are on both pages
marked_new : (old new : Forest Look) (Same : ℕ → Type 0) (marks : List ℕ) → Covers old new Same marks → (a : ℕ) → listed a marks ≡ true → on a new ≡ true
marked_new old new Same marks c a h = (let f = c.few a in let u = listed_often a marks h in tally_on a new (omega (arith, f, u)))

children_spelled : (p : NumberedPage) (shape : Forest Look) → IsPage p → IsShape shape → SameOrigin (page_shape p) shape →
    (a : ℕ) → on a (page_shape p) ≡ true → on a shape ≡ true →
    children_at (number_of p) (carried p shape) (page_shape p) shape a ≡ children_done p shape a
children_spelled p shape q s o a h k =
    ap (λ left. child_edits (number_of p a) 0 left (next_children p shape a)) (sym (children_law p shape q s o a h k).left)

look_spelled : (p : NumberedPage) (shape : Forest Look) (kept : ℕ → Bool) → IsPage p → Sound (page_shape p) → SameOrigin (page_shape p) shape →
    TellsKept p shape kept → (a : ℕ) → on a (page_shape p) ≡ true → on a shape ≡ true → restated_at (number_of p) (page_shape p) shape a ≡ look_done p shape a
look_spelled p shape kept q d o tells a h k =
    let n = number_of p a in
    let x = label_in Root a (page_shape p) in
    let y = label_in Root a shape in
    told_law n x y (o.lines a h k) (names_at a (page_shape p) d) ∙ ap (λ z. told_on n z y) (sym (reads_law p shape kept q tells a h).label)

pub operations_law : OperationsLaw
operations_law p shape kept children looks q d s o tells x =
    let before = page_shape p in
    let num = number_of p in
    let there : (a : ℕ) → listed a children ≡ true → on a before ≡ true = x.children.there in
    let lost = ap (map OpRemove) (removals_law p shape kept children q tells there) in
    let kids_same = flat_same (children_at num (carried p shape) before shape) (children_done p shape) (ascending_by num children)
    (λ a h. (
    let l : listed a children ≡ true = sym (in_ascending_by num a children) ∙ h in
    children_spelled p shape q s o a (there a l) (marked_new before shape _ children x.children a l))) in
    let looks_same = flat_same (restated_at num before shape) (look_done p shape) (ascending_by num looks)
    (λ a h. (
    let l : listed a looks ≡ true = sym (in_ascending_by num a looks) ∙ h in
    look_spelled p shape kept q d o tells a (x.looks.there a l) (marked_new before shape _ looks x.looks a l))) in
    let all = (marks_law p shape children looks q s o x).edits ∙ (λ t. (lost t ++ kids_same t) ++ looks_same t) in
    record { edits = all; replays = ap (λ z. replay z (tree_of p)) (sym all) ∙ replay_leads p shape q s o }
