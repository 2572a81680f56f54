-- What is kept of lines that were made before, and are brought up to date.
use Rattle.std.specs.Prelude.{◌≡◌, ◌<◌, ℕ, suc, Bool, true, false, List, [], ◌∷◌, length, Option, Some, None}
use Rattle.sig_base.specs.Tables.{Table}
use Rattle.sig_formula.specs.declared.formula.RowRef.{RowRef}
use Rattle.tpl_model.specs.Lines.{Block}
use Rattle.tpl_hearing.specs.Heard.{Outcomes}
use Rattle.tpl_hearing.specs.HeardAgain.{AreSame, AreSameUpTo}
use Rattle.tpl_model.specs.PageUpdates.PageMemos.{PageMemo, unread}
use Rattle.tpl_model.specs.KeptLines.Memos.{Keeping, lines_memo}
use Rattle.tpl_model.specs.KeptLines.Before.{WasMade}

-- whether nothing is kept
abbrev pub is_unread : PageMemo → Bool
is_unread unread = true
is_unread m = false

-- so it is, or nothing is kept
pub record WasMadeIfRead (whole : Keeping) (links : List ℕ) (row : Option RowRef) (before : Outcomes) (m : PageMemo) : Type 0 where
  pub made : is_unread m ≡ false → WasMade whole links row before m

-- what is kept for rows, from place i on, as far as it wasn't taken
abbrev pub SlotsWere : Block → List ℕ → Table → ℕ → Outcomes → List PageMemo → Type 0
SlotsWere b links t i before [] = Unit {0}
SlotsWere b links t i before (m ∷ ms) =
    (i < length t.rows → WasMadeIfRead (lines_memo b) links (Some (record { rows = t; place = i })) before m)
    × SlotsWere b links t (suc i) before ms

-- what was kept of the row at a place is taken; what is left was kept for rows from place n on
pub record TakesRow (b : Block) (links : List ℕ) (t : Table) (n : ℕ) (before : Outcomes) (place : Option ℕ) (m : PageMemo)
    (ms : List PageMemo) : Type 0 where
  pub taken : (i : ℕ) → place ≡ Some i → i < length t.rows →
      WasMadeIfRead (lines_memo b) links (Some (record { rows = t; place = i })) before m
  pub nothing : place ≡ None → is_unread m ≡ true
  pub left : SlotsWere b links t n before ms

-- nothing was heard, or names were heard up to one that may have another outcome
pub data AreChanged (before : Outcomes) (ns : List ℕ) (earlier now : Outcomes) : Type 0 where
  unheard : earlier ≡ now → AreChanged before ns earlier now
  heard_up_to : AreSameUpTo before ns earlier now → AreChanged before ns earlier now

-- so names were looked at, where they were to be looked at
abbrev pub AreLooked : Bool → Outcomes → List ℕ → Outcomes → Outcomes → Type 0
AreLooked true before ns earlier now = AreSame before ns earlier now
AreLooked false before ns earlier now = AreChanged before ns earlier now
