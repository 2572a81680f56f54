-- Rows stay rows by each edit that they allow.
use Rattle.std.proofs.Common.{◌≡◌, ℕ, ◌<◌, ◌==◌, Bool, true, false, cond, not, List, [], length, map, Option, Some, None, refl, subst, arith, eqb-true}
use Rattle.std.specs.Prelude.{nat_le, nat_lt, option_map}
use Rattle.std.specs.List.{IsDistinct, list_any}
use Rattle.std.proofs.lemmas.Bool.Decides.{nat_tests}
use Rattle.std.proofs.lemmas.List.Elements.{All-from_recursion}
use Rattle.std.proofs.lemmas.Bool.{not-false}
use Rattle.sig_base.proofs.Marks.{AreRows-marked}
use Rattle.sig_base.specs.Tables.{AreRows, Table}
use Rattle.sig_base.specs.declared.limits.TheConstants.{MOST_ROWS}
use Rattle.sig_base.specs.declared.rows.Row.{Row}
use Rattle.sig_base.specs.declared.value.Value.{Value}
use Rattle.sig_base.specs.declared.value.Value.TheVariants as value
use Rattle.sig_rows.specs.Edits.{field_place, has_key}
use Rattle.sig_rows.specs.declared.fault.RowFault.{RowFault}
use Rattle.sig_rows.specs.declared.fault.RowFault.TheVariants as fault
use Rattle.sig_rows.proofs.Shared.{inserted, marked_others, moved_rows, valued}
use Rattle.signal_model.specs.Signals.{Signals, Stands, IsGone, IsCell, IsComputed, standing}
use Rattle.sig_host.specs.Loans.{IsGood}
use Rattle.live_cmd.specs.declared.command.RowEdit.{RowEdit}
use Rattle.live_cmd.specs.declared.command.RowEdit.TheVariants as edit
use Rattle.live_model.specs.Rows.{edit_fault, edit_refusal, edited, fault_told, rows_at, rows_in, rows_there}
use Rattle.page_laws.proofs.Values.{AreGoodCells, IsGoodStanding, standing_good}

-- the four tests of an insertion
allowed : (taken outside uneven full : Bool) (a b c d : RowFault) → cond taken (Some a) (cond outside (Some b) (cond uneven (Some c) (cond full (Some d) None))) ≡ None →
    (taken ≡ false) × (uneven ≡ false) × (full ≡ false)
allowed true outside uneven full a b c d h = cc
allowed false true uneven full a b c d h = cc
allowed false false true full a b c d h = cc
allowed false false false true a b c d h = cc
allowed false false false false a b c d h = (refl, refl, refl)

-- an edit that the rows allow makes rows of them
edited_rows : (e : RowEdit) (t : Table) → AreRows t.fields t.rows → edit_fault e t ≡ None → AreRows (edited e t).fields (edited e t).rows
edited_rows (edit.Insert place key values) t h free =
    let s = allowed (list_any (has_key key) t.rows) (nat_lt (length t.rows) place) (not (length values == length t.fields)) (nat_le MOST_ROWS (length t.rows))
    fault.KeyTaken fault.Place fault.Field fault.Limit free in
    let room : length t.rows < MOST_ROWS = (let f = s.2 in grind (arith, nat_tests)) in
    inserted t.fields t.rows place (record { key = key; values = values }) h s.0 (eqb-true (length values) (length t.fields) (not-false (length values == length t.fields) s.1)) room
edited_rows (edit.Remove key) t h free =
    subst (λ (rs : List Row). AreRows t.fields rs) (marked_others key t.rows) (AreRows-marked t.fields t.rows (map (λ (r : Row). not (has_key key r)) t.rows) h)
edited_rows (edit.Move key place) t h free = moved_rows t.fields key place t.rows h
edited_rows (edit.Put key field v) t h free = valued t.fields key (field_place field t.fields) v t.rows h

-- what isn't refused is allowed
no_fault : (e : RowEdit) (o : Option RowFault) → option_map (fault_told e) o ≡ None → o ≡ None
no_fault e None h = refl
no_fault e (Some why) h = cc

-- no rows are rows
nothing_good : AreRows [] []
unfolding IsDistinct
nothing_good = record {
  few_fields = omega arith;
  distinct_fields = tt;
  no_key_field = refl;
  few_rows = omega arith;
  distinct_keys = tt;
  one_value_each = All-from_recursion (λ (r : Row). length r.values ≡ 0) [] tt;
}

value_rows : (v : Value) → IsGood v → AreRows (rows_in v).fields (rows_in v).rows
value_rows (value.Rows t) g = g
value_rows (value.Bool b) g = nothing_good
value_rows (value.Int n) g = nothing_good
value_rows (value.Text t) g = nothing_good

-- the rows of a list are rows
list_rows : (w : Signals) (n : ℕ) → AreGoodCells w.cells → AreRows (rows_at w n).fields (rows_at w n).rows
list_rows w n g = go (standing w n) (standing_good w n g)
  where
    go : (s : Stands) → IsGoodStanding s → AreRows (rows_there s).fields (rows_there s).rows
    go IsGone h = nothing_good
    go (IsCell c) h = value_rows c.value h
    go (IsComputed c) h = nothing_good

-- and so are they behind an edit that isn't refused
pub list_edited : (e : RowEdit) (w : Signals) (n : ℕ) → AreGoodCells w.cells → edit_refusal e (rows_at w n) ≡ None →
    IsGood (value.Rows (edited e (rows_at w n)))
list_edited e w n g fine = edited_rows e (rows_at w n) (list_rows w n g) (no_fault e _ fine)
