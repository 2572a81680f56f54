-- What is kept that stays though nothing is heard.
use Rattle.std.specs.Prelude.{◌≡◌, ◌&&◌, ℕ, zero, suc, Bool, true, false, List, [], ◌∷◌, ◌++◌, Option}
use Rattle.sig_formula.specs.Trees as tree
use Rattle.sig_formula.specs.Trees.{Tree}
use Rattle.sig_formula.specs.declared.formula.RowRef.{RowRef}
use Rattle.tpl_model.specs.Lines.{Block, empty, text, tag, choice, each, attempt}
use Rattle.tpl_model.specs.KeptLines.Changes.{Change, stays}
use Rattle.tpl_model.specs.PageUpdates.PageMemos.{PageMemo, names}
use Rattle.tpl_kept.specs.Renewals.{is_unread}
use Rattle.tpl_kept.specs.Turns.{first_of, later_of}

-- something is kept, and it read no name
pub record ReadsNone (m : PageMemo) : Type 0 where
  pub read : is_unread m ≡ false
  pub none : names m ≡ []

-- whether a formula has no slot
abbrev pub slotless : Tree → Bool
slotless (tree.literal s) = true
slotless (tree.slot n) = false
slotless (tree.row_field g) = true
slotless tree.row_key = true
slotless (tree.negation a) = slotless a
slotless (tree.binary o a b) = slotless a && slotless b
slotless (tree.choice t a b) = slotless t && (slotless a && slotless b)
slotless (tree.count_of a) = slotless a
slotless (tree.sum_of a b) = slotless a && slotless b
slotless (tree.rows_where a b) = slotless a && slotless b
slotless (tree.untracked a) = slotless a

-- so it is for each of some attributes
abbrev pub all_slotless : List (List ℕ × Tree) → Bool
all_slotless [] = true
all_slotless (x ∷ xs) = slotless x.1 && all_slotless xs

-- whether no line has a formula with a slot; of lines with a loop or a `try` it isn't known
abbrev pub nameless : Block → Bool
nameless empty = true
nameless (text n f rest) = slotless f && nameless rest
nameless (tag n name xs inner rest) = all_slotless xs && (nameless inner && nameless rest)
nameless (choice f one other rest) = slotless f && (nameless one && (nameless other && nameless rest))
nameless (each f inner rest) = false
nameless (attempt first second rest) = false

-- what was kept in so many rows read no name, as far as something was
abbrev pub AreNameless : ℕ → List PageMemo → Type 0
AreNameless zero ms = Unit {0}
AreNameless (suc n) ms = (is_unread (first_of ms) ≡ false → ReadsNone (first_of ms)) × AreNameless n (later_of ms)

-- something was kept in each of so many rows, and it read no name
abbrev pub ReadNone : ℕ → List PageMemo → Type 0
ReadNone zero ms = Unit {0}
ReadNone (suc n) ms = ReadsNone (first_of ms) × ReadNone n (later_of ms)

-- what was kept in so many rows, one after the other, is put behind what is kept, and that it stays behind what became of that
abbrev pub KeepsRows : ℕ → List (Option RowRef) → List PageMemo → List PageMemo → List Change →
    List (Option RowRef) → List PageMemo → List PageMemo → List Change → Type 0
KeepsRows zero rows was dones changes left later put added = (rows ≡ left) × ((was ≡ later) × ((dones ≡ put) × (changes ≡ added)))
KeepsRows (suc n) [] was dones changes left later put added = ⊥
KeepsRows (suc n) (r ∷ rows) was dones changes left later put added =
    ReadsNone (first_of was) × KeepsRows n rows (later_of was) (dones ++ first_of was ∷ []) (changes ++ stays ∷ []) left later put added

-- so it is for some of the first
pub record KeepsFront (rows : List (Option RowRef)) (was dones : List PageMemo) (changes : List Change) (left : List (Option RowRef))
    (later put : List PageMemo) (added : List Change) : Type 0 where
  pub count : ℕ
  pub keeps : KeepsRows count rows was dones changes left later put added
