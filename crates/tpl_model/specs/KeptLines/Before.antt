-- What was heard of lines, and kept of them, wherever the names have the outcomes of before.
use Rattle.std.specs.Prelude.{◌≡◌, ℕ, false, List, Option}
use Rattle.sig_base.specs.declared.value.Outcome.{Outcome}
use Rattle.sig_formula.specs.Trees.{Tree}
use Rattle.sig_formula.specs.declared.formula.RowRef.{RowRef}
use Rattle.tpl_model.specs.Shapes.{Here, row_here}
use Rattle.tpl_model.specs.Sources.{evaluating}
use Rattle.tpl_model.specs.KeptLines.Outcomes.{Outcomes}
use Rattle.tpl_model.specs.PageUpdates.PageMemos.{Heard, PageMemo, hearing, attributes_heard}
use Rattle.tpl_model.specs.KeptLines.Memos.{Agrees, Keeping}

-- what was heard of a formula is what it comes to wherever the names have the outcomes of before
pub record WasListened (f : Tree) (links : List ℕ) (row : Option RowRef) (before : Outcomes) (h : Heard) : Type 0 where
  pub is : (source : ℕ → Outcome) → Agrees before source → h ≡ hearing (evaluating links source) row f

-- so it is for each of some attributes
pub record WasListenedAll (xs : List (List ℕ × Tree)) (links : List ℕ) (row : Option RowRef) (before : Outcomes) (hs : List Heard) : Type 0 where
  pub is : (source : ℕ → Outcome) → Agrees before source → hs ≡ attributes_heard false (hearing (evaluating links source)) row xs

-- what is kept is that from scratch wherever the names have the outcomes of before
pub record WasMade (whole : Keeping) (links : List ℕ) (row : Option RowRef) (before : Outcomes) (m : PageMemo) : Type 0 where
  pub is : (source : ℕ → Outcome) → Agrees before source → (here : Option Here) → row_here here ≡ row →
      m ≡ whole (hearing (evaluating links source)) here
