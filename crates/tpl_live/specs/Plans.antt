-- The operations that bring a page up to date, as they are read from the tree that stands by the marks of the nodes that are compared.
use Rattle.std.specs.Prelude.{◌≡◌, ◌==◌, ◌&&◌, ℕ, Bool, false, Some, None, List, [], ◌∷◌, ◌++◌, length, map, nat_eq, if◌then◌else◌, Option}
use lib.Pointwise.{pointwise}
use Rattle.std.specs.List.{flat_map}
use Rattle.page_model.specs.Edits.{ascending, listed, siblings}
use Rattle.page_model.specs.Forest.{Forest, kids}
use Rattle.page_model.specs.Labels.{Kind, Look, Sound}
use Rattle.page_model.specs.Pages.{IsPage, IsShape, NumberedPage, SameOrigin, edits_between, page_shape, renumbered, tree_of}
use Rattle.page_model.specs.Replay.{Done, Op, OpRemove, replay}
use Rattle.page_model.specs.Trees.{Brings}
use Rattle.tpl_drawn.specs.Comparison.{Compared, known_of, restated_in, touched_in}
use Rattle.tpl_model.specs.KeptLines.Changes.{Change}
use Rattle.tpl_model.specs.NextPage.Lookups.{gone_numbers}
use Rattle.tpl_patch.specs.Attributes.{mark_told}
use Rattle.tpl_model.specs.Lines.{Block}
use Rattle.tpl_patch.specs.Moves.{moved_between}
use Rattle.tpl_model.specs.declared.shown.Address.{Address}
use Rattle.tpl_model.specs.ShownNodes.Shapes.{Marked, Next, comes, stays}
use Rattle.tpl_model.specs.PageUpdates.PageMemos.{PageMemo}
use Rattle.tpl_live.specs.Pages.{AreKnown, lines_shape}

-- the numbers of marks
abbrev pub numbers_of : List Marked → List ℕ
numbers_of ms = map (λ (m : Marked). m.number) ms

-- a child's number where it stays
abbrev pub number_staying : Next → List ℕ
number_staying (stays n) = n ∷ []
number_staying (comes t) = []

-- the numbers of those children that stay
abbrev pub numbers_staying : List Next → List ℕ
numbers_staying cs = flat_map number_staying cs

-- those of the children of marked nodes
abbrev pub children_staying : List Marked → List ℕ
children_staying ms = flat_map (λ (m : Marked). numbers_staying m.children) ms

-- whether a child stays under the number, where there is one
abbrev pub stays_at : Next → Option ℕ → Bool
stays_at (stays n) (Some m) = n == m
stays_at (stays n) None = false
stays_at (comes t) o = false

-- whether children all stay, under these numbers and no others
abbrev pub stay_as : List Next → List ℕ → Bool
stay_as cs ns = (length (numbers_staying cs) == length cs) && pointwise nat_eq (numbers_staying cs) ns

-- whether the next children of a marked node are those that it has
abbrev pub keeps_children : Forest Kind → Marked → Bool
keeps_children tree m =
    (length (numbers_staying m.children) == length m.children) && pointwise nat_eq (numbers_staying m.children) (siblings (kids m.number tree))

-- the marks of the other nodes
abbrev pub moving : Forest Kind → List Marked → List Marked
moving tree ms = flat_map (λ (m : Marked). if keeps_children tree m then [] else m ∷ []) ms

-- What is removed and what is done to children towards the next tree, by the nodes whose children may differ, and what those nodes say that may
-- say something else. The other children of these parents are gone.
abbrev pub ops_towards : Forest Kind → Forest Kind → List Marked → List Marked → List Op
ops_towards tree after touched restated =
    let kept : ℕ → Bool = λ n. listed n (children_staying touched) in
    (map OpRemove (ascending (flat_map (gone_numbers kept tree) (numbers_of touched))) ++ moved_between tree after touched)
    ++ flat_map (mark_told tree) restated

-- what each of these brings are nodes
abbrev pub AllBring : List Op → Type 0
AllBring [] = Unit {0}
AllBring (o ∷ os) = Brings o × AllBring os

-- A page and what is kept of its lines next: the noted numbers, the tree and the next unused number are those of the page, the shape comes
-- from the same template, and what became of what is kept tells what has to be compared.
pub record Compares (p : NumberedPage) (b : Block) (m : PageMemo) (c : Change) (number : Address → Option ℕ) (tree : Forest Kind)
    (next : ℕ) : Type 0 where
  pub page : IsPage p
  pub sound : Sound (page_shape p)
  pub formed : IsShape (lines_shape b m)
  pub origin : SameOrigin (page_shape p) (lines_shape b m)
  pub known : AreKnown p tree number
  pub stands : tree ≡ tree_of p
  pub count : next ≡ p.next
  pub compared : Compared p (lines_shape b m) (touched_in (known_of p) b m c) (restated_in (known_of p) b m c)

-- so it is for some page
pub record CanCompare (b : Block) (m : PageMemo) (c : Change) (number : Address → Option ℕ) (tree : Forest Kind) (next : ℕ) : Type 0 where
  pub old : NumberedPage
  pub compares : Compares old b m c number tree next

-- operations that are the edits to the next page, and lead from this tree to that of the next page
pub record LeadOn (p : NumberedPage) (shape : Forest Look) (os : List Op) (next : ℕ) : Type 0 where
  pub edits : edits_between p (renumbered p shape) ≡ os
  pub replays : replay os (tree_of p) ≡ Done (tree_of (renumbered p shape))
  pub brings : AllBring os
  pub count : next ≡ (renumbered p shape).next

-- they were done, and the numbers by address are those of the next page
pub record Carries (p : NumberedPage) (shape : Forest Look) (os : List Op) (next : ℕ) (tree : Forest Kind)
    (number : Address → Option ℕ) : Type 0 where
  pub leads : LeadOn p shape os next
  pub stands : tree ≡ tree_of (renumbered p shape)
  pub known : AreKnown (renumbered p shape) tree number
