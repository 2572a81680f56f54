-- What was kept for rows, taken one after the other.
use Rattle.std.proofs.Common.{◌≡◌, ℕ, zero, suc, ◌+◌, ◌<◌, ◌≤◌, true, false, List, [], ◌∷◌, Option, Some, None, length, get_or, refl, sym, ap, subst, ◌∙◌, arith}
use Rattle.std.specs.Prelude.{slice_set, IfSome}
use Rattle.sig_base.specs.Tables.{Table}
use Rattle.sig_base.specs.declared.rows.Row.{Row}
use Rattle.sig_base.specs.declared.value.Outcome.{Outcome}
use Rattle.sig_formula.specs.declared.formula.RowRef.{RowRef}
use Rattle.tpl_model.specs.Lines.{Block}
use Rattle.tpl_model.specs.Shapes.{Here}
use Rattle.tpl_model.specs.Sources.{evaluating, same_here}
use Rattle.tpl_hearing.specs.Heard.{Outcomes}
use Rattle.tpl_model.specs.KeptLines.Kept.{rows_from}
use Rattle.tpl_model.specs.PageUpdates.PageMemos.{Hearing, PageMemo, unread, row, hearing, memo_of, rows_memo}
use Rattle.tpl_model.proofs.Shared.{memo_like, steady}
use Rattle.tpl_model.specs.KeptLines.Memos.{Agrees, lines_memo, loop_memo, rows_in}
use Rattle.tpl_model.specs.KeptLines.Before.{WasMade}
use Rattle.tpl_kept.specs.Renewals.{WasMadeIfRead, SlotsWere, TakesRow, is_unread}
use Rattle.tpl_kept.proofs.Listened.Rowed.{row_at}
use Rattle.tpl_kept.proofs.Listened.Splits.{unread_was}

-- ---- what a loop keeps

abbrev row_inner : PageMemo → PageMemo
row_inner (row h m next) = m
row_inner m = m

abbrev row_next : PageMemo → PageMemo
row_next (row h m next) = next
row_next m = m

-- behind the rows
past_slots : (b : Block) (links : List ℕ) (t : Table) (before : Outcomes) (i : ℕ) (ms : List PageMemo) → length t.rows ≤ i → SlotsWere b links t i before ms
past_slots b links t before i [] h = tt
past_slots b links t before i (m ∷ ms) h = ((λ lt. absurd (omega (arith, lt, h))), past_slots b links t before (suc i) ms (omega (arith, h)))

-- what was kept in one row
in_row : (b : Block) (links : List ℕ) (r : RowRef) (key : List ℕ) (before : Outcomes) (m : PageMemo) →
    ((source : ℕ → Outcome) → Agrees before source → m ≡ memo_of (hearing (evaluating links source)) false (Some (record { key = key; row = r })) b) →
    WasMadeIfRead (lines_memo b) links (Some r) before m
in_row b links r key before m was = record {
  made = λ u. record {
    is = λ source agrees here k.
        let hear : Hearing = hearing (evaluating links source) in
        was source agrees ∙ memo_like hear b false (Some (record { key = key; row = r })) here (λ f. ap (λ z. hear z f) (sym k));
  };
}

slots_from : (b : Block) (links : List ℕ) (t : Table) (before : Outcomes) (i : ℕ) (rs : List Row) (ms : List PageMemo) → length t.rows ≡ i + length rs →
    ((source : ℕ → Outcome) → Agrees before source →
    rows_from t i rs ms ≡ rows_memo false (λ h. memo_of (hearing (evaluating links source)) false (Some h) b) t i rs) → SlotsWere b links t i before ms
slots_from b links t before i rs [] e was = tt
slots_from b links t before i [] (m ∷ ms) e was = past_slots b links t before i (m ∷ ms) (omega (arith, e))
slots_from b links t before i (r ∷ rs) (m ∷ ms) e was = (
  (λ lt. in_row b links (row_at t i) r.key before m (λ source agrees. ap row_inner (was source agrees))),
  slots_from b links t before (suc i) rs ms (omega (arith, e)) (λ source agrees. ap row_next (was source agrees)),
)

pub slots_were : (b : Block) (links : List ℕ) (t : Table) (before : Outcomes) (ms : List PageMemo) →
    WasMade (loop_memo t b) links None before (rows_in t ms) → SlotsWere b links t 0 before ms
slots_were b links t before ms was = slots_from b links t before 0 t.rows ms (omega arith) (λ source agrees. was.is source agrees None refl)

-- ---- a row that is taken

-- none is
pub none_taken : (b : Block) (links : List ℕ) (t : Table) (n : ℕ) (before : Outcomes) (place : Option ℕ) (m : PageMemo) (ms : List PageMemo) → m ≡ unread →
    SlotsWere b links t n before ms → TakesRow b links t n before place m ms
none_taken b links t n before place m ms e all = record {
  taken = λ i h lt. unread_was (lines_memo b) links (Some (row_at t i)) before m (ap is_unread e);
  nothing = λ h. ap is_unread e;
  left = all;
}

-- in rows that are alike each line is the same
pub like_row : (b : Block) (links : List ℕ) (r s : RowRef) (before : Outcomes) (m : PageMemo) → same_here r s ≡ true →
    WasMadeIfRead (lines_memo b) links (Some r) before m → WasMadeIfRead (lines_memo b) links (Some s) before m
like_row b links r s before m e x = record {
  made = λ u. record {
    is = λ source agrees here k.
        let hear : Hearing = hearing (evaluating links source) in
        let there : Option Here = Some (record { key = []; row = r }) in
        (x.made u).is source agrees there refl
        ∙ memo_like hear b false there here (λ f. (steady (λ n. false) source source links (λ n q. refl)).rows r s f e ∙ ap (λ z. hear z f) (sym k));
  };
}

-- what was taken for a row serves there
pub row_ready : (b : Block) (links : List ℕ) (t u : Table) (n : ℕ) (before : Outcomes) (at : Option ℕ) (place : ℕ) (r : RowRef) (m : PageMemo) (ms : List PageMemo) →
    r ≡ row_at u place → IfSome at (λ i. i < length t.rows) → IfSome at (λ i. same_here (row_at t i) (row_at u place) ≡ true) →
    TakesRow b links t n before at m ms → WasMadeIfRead (lines_memo b) links (Some r) before m
row_ready b links t u n before None place r m ms e lt same x = unread_was (lines_memo b) links (Some r) before m (x.nothing refl)
row_ready b links t u n before (Some i) place r m ms e lt same x =
    like_row b links (row_at t i) r before m (ap (same_here (row_at t i)) e ∙ same) (x.taken i refl lt)

-- ---- at a place

slot_at : (b : Block) (links : List ℕ) (t : Table) (before : Outcomes) (i j : ℕ) (d : PageMemo) (ms : List PageMemo) → j < length ms →
    SlotsWere b links t i before ms → i + j < length t.rows → WasMadeIfRead (lines_memo b) links (Some (row_at t (i + j))) before (get_or ms j d)
slot_at b links t before i j d [] lt all in_table = absurd (omega (arith, lt))
slot_at b links t before i zero d (m ∷ ms) lt all in_table =
    let e : i ≡ i + 0 = omega arith in
    subst (λ z. WasMadeIfRead (lines_memo b) links (Some (row_at t z)) before m) e (all.0 (omega (arith, in_table)))
slot_at b links t before i (suc j) d (m ∷ ms) lt all in_table =
    let e : suc i + j ≡ i + suc j = omega arith in
    subst (λ z. WasMadeIfRead (lines_memo b) links (Some (row_at t z)) before (get_or ms j d)) e
    (slot_at b links t before (suc i) j d ms (omega (arith, lt)) all.1 (omega (arith, in_table)))

pub slot_out : (b : Block) (links : List ℕ) (t : Table) (before : Outcomes) (i j : ℕ) (ms : List PageMemo) → SlotsWere b links t i before ms →
    SlotsWere b links t i before (slice_set ms j unread)
slot_out b links t before i j [] all = tt
slot_out b links t before i zero (m ∷ ms) all = ((λ lt. unread_was (lines_memo b) links (Some (row_at t i)) before unread refl), all.1)
slot_out b links t before i (suc j) (m ∷ ms) all = (all.0, slot_out b links t before (suc i) j ms all.1)

-- the row at a place is
pub one_taken : (b : Block) (links : List ℕ) (t : Table) (n : ℕ) (before : Outcomes) (place : Option ℕ) (j : ℕ) (m : PageMemo) (ms ks : List PageMemo) →
    place ≡ Some (n + j) → j < length ms → m ≡ get_or ms j m → ks ≡ slice_set ms j unread → SlotsWere b links t n before ms →
    TakesRow b links t n before place m ks
one_taken b links t n before place j m ms ks e lt is f all = record {
  taken = λ i h in_table.
      let same : i ≡ n + j = cc in
      subst (λ z. WasMadeIfRead (lines_memo b) links (Some (row_at t z)) before m) (sym same)
      (subst (λ z. WasMadeIfRead (lines_memo b) links (Some (row_at t (n + j))) before z) (sym is)
      (slot_at b links t before n j m ms lt all (omega (arith, in_table, same))));
  nothing = λ h. cc;
  left = subst (SlotsWere b links t n before) (sym f) (slot_out b links t before n j ms all);
}
