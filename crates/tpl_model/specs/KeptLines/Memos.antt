-- What is kept of lines that are made on what is heard.
use Rattle.std.specs.Prelude.{◌≡◌, ℕ, Bool, true, false, List, [], Option, Some, None}
use Rattle.std.specs.Map.{keys_of}
use Rattle.sig_base.specs.Tables.{Table}
use Rattle.sig_base.specs.declared.value.Value.TheVariants as value
use Rattle.sig_base.specs.declared.value.Outcome.{Outcome}
use Rattle.sig_base.specs.declared.value.Outcome.TheVariants.{Good}
use Rattle.sig_formula.specs.Trees.{Tree}
use Rattle.sig_formula.specs.declared.formula.RowRef.{RowRef}
use Rattle.signal_laws.specs.ReadLaws.{firsts_after}
use Rattle.tpl_model.specs.Lines.{Block}
use Rattle.tpl_model.specs.Shapes.{Here, row_here}
use Rattle.tpl_model.specs.Sources.{evaluating}
use Rattle.tpl_model.specs.KeptLines.Outcomes.{Outcomes, heard_of}
use Rattle.tpl_model.specs.KeptLines.Kept.{rows_from}
use Rattle.tpl_model.specs.PageUpdates.PageMemos.{Heard, Hearing, PageMemo, blank, either, hearing}
use Rattle.tpl_model.specs.PageUpdates.PageMemos.{attributes_heard, all_names, failed, memo_of, names, rows_memo, where_ended}

-- the names that were heard have these outcomes
pub record Agrees (heard : Outcomes) (source : ℕ → Outcome) : Type 0 where
  pub each : (n : ℕ) (o : Outcome) → heard_of heard n ≡ Some o → source n ≡ o

-- what was heard of a formula is what it comes to wherever the names have the outcomes that were heard, and its names were heard in order
pub record Listens (f : Tree) (links : List ℕ) (row : Option RowRef) (earlier now : Outcomes) (h : Heard) : Type 0 where
  pub is : (source : ℕ → Outcome) → Agrees now source → h ≡ hearing (evaluating links source) row f
  pub order : keys_of now ≡ firsts_after (keys_of earlier) h.names

-- so it is for each of some attributes, to their end or to the first that meets a fault
pub record ListensUpTo (ends : Bool) (xs : List (List ℕ × Tree)) (links : List ℕ) (row : Option RowRef) (earlier now : Outcomes)
    (hs : List Heard) : Type 0 where
  pub is : (source : ℕ → Outcome) → Agrees now source → hs ≡ attributes_heard ends (hearing (evaluating links source)) row xs
  pub order : keys_of now ≡ firsts_after (keys_of earlier) (all_names hs)

abbrev pub ListensAll : List (List ℕ × Tree) → List ℕ → Option RowRef → Outcomes → Outcomes → List Heard → Type 0
ListensAll xs links row earlier now hs = ListensUpTo false xs links row earlier now hs

-- what is kept of lines, by what is heard of their formulas in the row where they stand
abbrev pub Keeping : Type 0
Keeping = Hearing → Option Here → PageMemo

-- What is kept is that from scratch wherever the names have the outcomes that were heard, and its names were heard in order.
pub record Makes (whole : Keeping) (links : List ℕ) (row : Option RowRef) (earlier now : Outcomes) (m : PageMemo) : Type 0 where
  pub is : (source : ℕ → Outcome) → Agrees now source → (here : Option Here) → row_here here ≡ row →
      m ≡ whole (hearing (evaluating links source)) here
  pub order : keys_of now ≡ firsts_after (keys_of earlier) (names m)

-- what is kept of the lines of a block, to their end or, in the first part of a `try`, to the first that meets a fault
abbrev pub part_memo : Bool → Block → Keeping
part_memo ends b hear here = memo_of hear ends here b

-- to their end
abbrev pub lines_memo : Block → Keeping
lines_memo b hear here = part_memo false b hear here

-- the truth that an outcome is, where it is one
abbrev pub truth_in : Outcome → Option Bool
truth_in (Good (value.Bool b)) = Some b
truth_in _ = None

-- what is kept of the branch that is shown
abbrev pub branch_part : Bool → Option Bool → Block → Block → Keeping
branch_part ends None one other hear here = blank
branch_part ends (Some true) one other hear here = memo_of hear ends here one
branch_part ends (Some false) one other hear here = memo_of hear ends here other

abbrev pub branch_memo : Option Bool → Block → Block → Keeping
branch_memo t one other hear here = branch_part false t one other hear here

-- what is kept of what is tried, with nothing behind it
abbrev pub attempt_memo : Bool → Block → Block → Keeping
attempt_memo ends first second hear here =
    let a = memo_of hear true here first in
    either a (where_ended (failed a) (memo_of hear ends here second)) blank

-- the rows that an outcome is, and otherwise none
abbrev pub table_in : Outcome → Table
table_in (Good (value.Rows t)) = t
table_in _ = record { fields = []; rows = [] }

-- what is kept for each row
abbrev pub loop_part : Bool → Table → Block → Keeping
loop_part ends t inner hear here = rows_memo ends (λ r. memo_of hear ends (Some r) inner) t 0 t.rows

abbrev pub loop_memo : Table → Block → Keeping
loop_memo t inner hear here = loop_part false t inner hear here

-- what is kept for rows, one after the other
abbrev pub rows_in : Table → List PageMemo → PageMemo
rows_in t ms = rows_from t 0 t.rows ms
