-- What became of what is kept of lines, when it was brought up to date, and what this tells of the outcomes of before.
use Rattle.std.specs.Prelude.{◌≡◌, ◌<◌, ℕ, zero, suc, Bool, true, false, List, [], ◌∷◌, length, map, Option, Some, None}
use Rattle.std.specs.Box.{box_value}
use Rattle.sig_base.specs.declared.rows.Row.{Row}
use Rattle.sig_base.specs.declared.value.Outcome.{Outcome}
use Rattle.sig_formula.specs.Trees.{Tree}
use Rattle.sig_formula.specs.declared.formula.RowRef.{RowRef}
use Rattle.tpl_model.specs.Lines.{Block, text, tag, choice, each, attempt}
use Rattle.tpl_model.specs.Shapes.{Here}
use Rattle.tpl_model.specs.Sources.{evaluating, same_here}
use Rattle.tpl_model.specs.KeptLines.Outcomes.{Outcomes}
use Rattle.tpl_model.specs.PageUpdates.PageMemos.{PageMemo, blank, line, element, branch, loop, row, either, hearing}
use Rattle.tpl_model.specs.KeptLines.Memos.{Agrees, attempt_memo, lines_memo, table_in, truth_in}
use Rattle.tpl_model.specs.KeptLines.Before.{WasListened, WasListenedAll, WasMade}
use Rattle.tpl_model.specs.declared.change.Change as code
use Rattle.tpl_model.specs.declared.change.Change.TheOpen.{Change-F}
use Rattle.tpl_model.specs.declared.change.Change.TheFolds.{fold-Change}

-- what became of lines: all of it stays, it was made anew, or the first line was heard again, with whether it is the same (the names of a text, of
-- attributes, of a test or of both parts of a `try` have the outcomes of before, and the rows of a loop their keys, in the same order), what became
-- of its inside and of the lines behind it; `also` and `nothing` are the parts of an inside, one after the other
pub data Change : Type 0 where
  stays : Change
  made : Change
  over : (same : Bool) (inside later : Change) → Change
  also : (first others : Change) → Change
  nothing : Change

-- parts one after the other
abbrev pub chain : List Change → Change
chain [] = nothing
chain (c ∷ cs) = also c (chain cs)

-- so many lines with nothing inside them are the same, and this became of the lines behind them
unfoldable pub same_before : ℕ → Change → Change
same_before zero c = c
same_before (suc n) c = over true nothing (same_before n c)

-- one change, over what became of its parts
abbrev pub changed_node : Change-F Change → Change
changed_node Change-F.Stays = stays
changed_node Change-F.Made = made
changed_node (Change-F.Over same inside later) = over same (chain inside.items) (box_value later)
changed_node (Change-F.First same inside) = over same (chain inside.items) stays
changed_node (Change-F.Same more later) = over true nothing (same_before more (box_value later))

-- a change as the code has it
unfoldable pub changed : code.Change → Change
changed = fold-Change Change changed_node

-- the first of some parts; where there is none, all was made anew
abbrev pub first_in : Change → Change
first_in (also c cs) = c
first_in c = made

-- whether all was made anew
abbrev pub is_made : Change → Bool
is_made made = true
is_made c = false

-- whether all stays
abbrev pub is_stays : Change → Bool
is_stays stays = true
is_stays c = false

-- ---- what a change tells

-- of lines that stay one thing, of lines that were made anew nothing, and of the others what is told of their parts
abbrev pub by_change : Type 0 → (Bool → Change → Change → Type 0) → Change → Type 0
by_change Same Parts stays = Same
by_change Same Parts made = Unit {0}
by_change Same Parts (over same inside later) = Parts same inside later
by_change Same Parts c = ⊥

-- a test came to this truth on the outcomes of before
pub record WasTrue (f : Tree) (links : List ℕ) (row : Option RowRef) (before : Outcomes) (truth : Option Bool) : Type 0 where
  pub is : (source : ℕ → Outcome) → Agrees before source → truth_in (hearing (evaluating links source) row f).outcome ≡ truth

-- a row of the same key and values stood at a place among the rows of before
pub record WasRow (f : Tree) (links : List ℕ) (row : Option RowRef) (before : Outcomes) (here : RowRef) : Type 0 where
  pub place : ℕ
  pub inside : (source : ℕ → Outcome) → Agrees before source →
      place < length (table_in (hearing (evaluating links source) row f).outcome).rows
  pub same : (source : ℕ → Outcome) → Agrees before source →
      same_here (record { rows = table_in (hearing (evaluating links source) row f).outcome; place = place }) here ≡ true

-- the keys of the rows that an outcome is
abbrev pub keys_in : Outcome → List (List ℕ)
keys_in o = map (λ (r : Row). r.key) (table_in o).rows

-- rows had these keys on the outcomes of before, in this order
pub record HadKeys (f : Tree) (links : List ℕ) (row : Option RowRef) (before : Outcomes) (keys : List (List ℕ)) : Type 0 where
  pub are : (source : ℕ → Outcome) → Agrees before source → keys_in (hearing (evaluating links source) row f).outcome ≡ keys

-- what is told of the branch that is shown
abbrev pub BranchTells : Option Bool → Type 0 → Type 0 → Type 0
BranchTells (Some true) One Other = One
BranchTells (Some false) One Other = Other
BranchTells None One Other = Unit {0}

-- what is told of rows, one after the other
abbrev pub RowsTell : (Here → PageMemo → Change → Type 0) → PageMemo → Change → Type 0
RowsTell Go (row here m next) (also c cs) = Go here m c × RowsTell Go next cs
RowsTell Go (row here m next) c = ⊥
RowsTell Go m c = Unit {0}

-- Lines that stay are kept now as they were made on the outcomes of before; a text or attributes whose names have the outcomes of before were heard
-- so before; of a branch that wasn't made anew the test had its truth before, a row that wasn't made anew stood among the rows of before, and rows of
-- a loop that is the same had their keys; the parts of a `try` that is the same were made so before.
abbrev pub Tells : Block → List ℕ → Option RowRef → Outcomes → PageMemo → Change → Type 0
Tells (text n f rest) links place before (line h r) c =
    by_change (WasMade (lines_memo (text n f rest)) links place before (line h r))
    (λ same inside later. (same ≡ true → WasListened f links place before h) × Tells rest links place before r later) c
Tells (tag n name xs inner rest) links place before (element hs i r) c =
    by_change (WasMade (lines_memo (tag n name xs inner rest)) links place before (element hs i r))
    (λ same inside later. (same ≡ true → WasListenedAll xs links place before hs)
    × (Tells inner links place before i (first_in inside) × Tells rest links place before r later)) c
Tells (choice f one other rest) links place before (branch h i r) c =
    by_change (WasMade (lines_memo (choice f one other rest)) links place before (branch h i r))
    (λ same inside later. (is_made (first_in inside) ≡ false → WasTrue f links place before (truth_in h.outcome))
    × (BranchTells (truth_in h.outcome) (Tells one links place before i (first_in inside)) (Tells other links place before i (first_in inside))
    × Tells rest links place before r later)) c
Tells (each f inner rest) links place before (loop h i r) c =
    by_change (WasMade (lines_memo (each f inner rest)) links place before (loop h i r))
    (λ same inside later. (same ≡ true → HadKeys f links place before (keys_in h.outcome))
    × (RowsTell (λ (here : Here) (m : PageMemo) (d : Change). (is_made d ≡ false → WasRow f links place before here.row)
    × Tells inner links (Some here.row) before m d) i inside × Tells rest links place before r later)) c
Tells (attempt first second rest) links place before (either a b r) c =
    by_change (WasMade (lines_memo (attempt first second rest)) links place before (either a b r))
    (λ same inside later. (same ≡ true → WasMade (attempt_memo false first second) links place before (either a b blank))
    × Tells rest links place before r later) c
Tells b links place before m c = Unit {0}
