-- A page that is made from a template, and how it is brought up to date by what changed.
use Rattle.std.specs.Prelude.{◌≡◌, ℕ, ◌+◌, length, map, Bool, true, false, List, [], ◌∷◌, ◌++◌, None}
use Rattle.sig_base.specs.declared.value.Outcome.{Outcome}
use Rattle.page_model.specs.Edits.{listed, siblings}
use Rattle.page_model.specs.Forest.{Forest, none, node, on, kids}
use Rattle.page_model.specs.Labels.{Root, Look, Kind}
use Rattle.page_model.specs.Pages.{NumberedPage, IsPage, IsShape, SameOrigin, bare, carried, edits_between, new_order}
use Rattle.page_model.specs.Pages.{number_of, page_shape, renumbered, those, tree_of, with_numbers}
use Rattle.page_model.specs.Replay.{Done, replay}
use Rattle.signal_model.specs.Signals.{is_in}
use Rattle.tpl_model.specs.Lines.{Line, block_of}
use Rattle.tpl_model.specs.Laws.{GivesRows, IsTemplate}
use Rattle.tpl_model.specs.Shapes.{shape_of, shown_lines}
use Rattle.tpl_model.specs.Sources.{evaluating}
use Rattle.tpl_model.specs.PageUpdates.Differences.{Finds, Found, found_edits, found_order}
use Rattle.tpl_model.specs.PageUpdates.PageMemos.{PageMemo, hearing, memo_of, names, nodes}

-- ---- what is kept

-- the shape of a template whose names have these outcomes
abbrev pub shape_on : List Line → List ℕ → (ℕ → Outcome) → Forest Look
shape_on lines links source = shape_of (evaluating links source) lines

-- the names that its lines read, in order
abbrev pub reads_on : List Line → List ℕ → (ℕ → Outcome) → List ℕ
reads_on lines links source = (shown_lines (evaluating links source) lines).reads

-- what a page keeps of its lines, made from scratch on these outcomes of the names; those of names that weren't read say nothing
abbrev pub memo_on : List Line → List ℕ → (ℕ → Outcome) → PageMemo
memo_on lines links source = memo_of (hearing (evaluating links source)) false None (block_of lines)

-- the shape that what is kept shows
abbrev pub memo_shape : List Line → PageMemo → Forest Look
memo_shape lines m = node 0 Root (nodes None (block_of lines) m) none

-- what stands for a page: what is kept of its lines was made on these outcomes, the page shows it, and the tree is the page's
pub record Keeps (lines : List Line) (links : List ℕ) (source : ℕ → Outcome) (m : PageMemo) (p : NumberedPage)
    (tree : Forest Kind) : Type 0 where
  pub memo : m ≡ memo_on lines links source
  pub shape : page_shape p ≡ memo_shape lines m
  pub page : IsPage p
  pub stands : tree ≡ tree_of p

-- ---- what changed

-- a test of names: each that passes has the outcome of before
abbrev pub Tells : (ℕ → Bool) → (ℕ → Outcome) → (ℕ → Outcome) → Type 0
Tells same before now = (n : ℕ) → same n ≡ true → before n ≡ now n

-- the page that comes next: it is carried to the shape of now
abbrev pub next_page : List Line → List ℕ → (ℕ → Outcome) → NumberedPage → NumberedPage
next_page lines links now p = renumbered p (shape_on lines links now)

-- ---- laws of an update

-- what is found gives the operations between two pages, and the order of the new numbers
pub record Gives (p : NumberedPage) (shape : Forest Look) (f : Found) : Type 0 where
  pub edits : edits_between p (renumbered p shape) ≡ found_edits p shape f
  pub order : new_order p shape ≡ found_order p shape f

-- what is kept rests on the outcomes of the names that were read, so these are all that a page need keep
abbrev pub SourceLaw : Type 0
SourceLaw = (lines : List Line) (links : List ℕ) (source other : ℕ → Outcome) →
    ((n : ℕ) → is_in n (names (memo_on lines links source)) ≡ true → source n ≡ other n) →
    memo_on lines links source ≡ memo_on lines links other

-- ---- laws for whatever finds the same in another order

-- Whatever finds the topmost nodes that are gone, the kept nodes whose children differ (and at most kept nodes more), and those whose look
-- differs, gives the operations and the order of the new numbers.
abbrev pub ReadLaw : Type 0
ReadLaw = (p : NumberedPage) (shape : Forest Look) (f : Found) → IsPage p → IsShape shape → SameOrigin (page_shape p) shape →
    Finds (page_shape p) shape (page_shape p) f → Gives p shape f

-- the numbers of the old children of a node that are on the next page
abbrev pub kept_children : NumberedPage → Forest Look → ℕ → List ℕ
kept_children p shape a = map (number_of p) (those (λ b. on b shape) (siblings (kids a (page_shape p))))

-- a new address gets the next number at its place in their order, and a part whose addresses were all there keeps its numbers
pub record Numbers (p : NumberedPage) (shape : Forest Look) : Type 0 where
  pub new : (a : ℕ) (pre post : List ℕ) → on a (page_shape p) ≡ false → new_order p shape ≡ pre ++ a ∷ post → listed a pre ≡ false →
      carried p shape a ≡ p.next + length pre
  pub kept : (part : Forest Look) → ((j : ℕ) → on j part ≡ true → on j (page_shape p) ≡ true) →
      with_numbers (carried p shape) part ≡ with_numbers (number_of p) part

-- so are the numbers of the next page
abbrev pub NumberLaw : Type 0
NumberLaw = (p : NumberedPage) (shape : Forest Look) → Numbers p shape

-- ---- the law of a mount

-- a mount finds the root alone: its children differ
abbrev pub mount_found : Found
mount_found = record { gone = []; touched = 0 ∷ []; restated = [] }

-- a page is mounted from the bare one, with what is kept made from scratch
pub record Mounted (lines : List Line) (links : List ℕ) (now : ℕ → Outcome) : Type 0 where
  pub keeps : Keeps lines links now (memo_on lines links now) (next_page lines links now bare) (tree_of (next_page lines links now bare))
  pub reads : names (memo_on lines links now) ≡ reads_on lines links now
  pub gives : Gives bare (shape_on lines links now) mount_found
  pub leads : replay (found_edits bare (shape_on lines links now) mount_found) (tree_of bare)
      ≡ Done (tree_of (next_page lines links now bare))

-- a template that fits is mounted so, where its names come to rows that are rows
abbrev pub MountLaw : Type 0
MountLaw = (lines : List Line) (links : List ℕ) (now : ℕ → Outcome) → IsTemplate lines → GivesRows (evaluating links now) →
    Mounted lines links now
