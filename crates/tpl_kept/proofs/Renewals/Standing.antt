-- What was kept for rows stays at its place, or is left.
use Rattle.std.specs.Prelude.{slice_set, IfSome}
use Rattle.std.specs.List.{slice_get}
use Rattle.std.specs.Str.{bytes_eq}
use lib.Pointwise.{pointwise}
use Rattle.std.proofs.Common.{◌≡◌, ℕ, zero, suc, ◌+◌, ◌<◌, true, false, List, [], ◌∷◌, ◌++◌, drop, length, Option, Some, None, refl, sym, ap, subst, ◌∙◌, arith}
use Rattle.std.proofs.lemmas.Bool.{and_parts, true≢false}
use Rattle.std.proofs.lemmas.Slice.Eq.{bytes_eq-Decides}
use Rattle.sig_base.specs.Scalars.{same_scalar}
use Rattle.sig_base.specs.Tables.{Table}
use Rattle.sig_base.specs.declared.rows.Row.{Row}
use Rattle.sig_formula.specs.declared.formula.RowRef.{RowRef}
use Rattle.tpl_model.specs.Lines.{Block}
use Rattle.tpl_model.specs.Sources.{same_here, same_place}
use Rattle.tpl_hearing.specs.Heard.{Outcomes}
use Rattle.tpl_model.specs.PageUpdates.PageMemos.{PageMemo, unread}
use Rattle.tpl_model.specs.KeptLines.Memos.{lines_memo}
use Rattle.tpl_kept.specs.Renewals.{WasMadeIfRead, SlotsWere, is_unread}
use Rattle.tpl_kept.proofs.Listened.Rowed.{row_at}
use Rattle.tpl_kept.proofs.Listened.Slots.{like_row, slot_out}
use Rattle.tpl_kept.proofs.Listened.Splits.{unread_was}
use Rattle.tpl_kept.specs.Heads.{places_from}
use Rattle.tpl_kept.proofs.Made.Memos.{places_more}
use Rattle.tpl_kept.proofs.Renewals.RowMemos.{how_many, keys}
use Rattle.tpl_kept.specs.Turns.{AreAmong, IsAmong, KeysLeft, RowsStand, WereEach, first_of}

-- ---- at a place

-- nothing is kept past the end
none_past : (n : ℕ) → is_unread (first_of (drop n [])) ≡ true
none_past zero = refl
none_past (suc n) = refl

-- nor where nothing was put
none_put : (n : ℕ) (ms : List PageMemo) → is_unread (first_of (drop n (slice_set ms n unread))) ≡ true
none_put zero [] = refl
none_put (suc n) [] = refl
none_put zero (m ∷ ms) = refl
none_put (suc n) (m ∷ ms) = none_put n ms

-- what was kept at a place belongs to the row there
slot_first : (b : Block) (links : List ℕ) (t : Table) (before : Outcomes) (i j n : ℕ) (ms : List PageMemo) → i + n ≡ j → j < length t.rows →
    SlotsWere b links t i before ms → WasMadeIfRead (lines_memo b) links (Some (row_at t j)) before (first_of (drop n ms))
slot_first b links t before i j n [] e lt all = unread_was (lines_memo b) links (Some (row_at t j)) before (first_of (drop n [])) (none_past n)
slot_first b links t before i j zero (m ∷ ms) e lt all =
    let same : i ≡ j = omega (arith, e) in
    subst (λ z. WasMadeIfRead (lines_memo b) links (Some (row_at t z)) before m) same (all.0 (omega (arith, e, lt)))
slot_first b links t before i j (suc n) (m ∷ ms) e lt all = slot_first b links t before (suc i) j n ms (omega (arith, e)) lt all.1

-- ---- one row more

were_more : (b : Block) (links : List ℕ) (before : Outcomes) (rs : List (Option RowRef)) (r : Option RowRef) (ms : List PageMemo) → WereEach b links rs before ms →
    WasMadeIfRead (lines_memo b) links r before (first_of (drop (length rs) ms)) → WereEach b links (rs ++ r ∷ []) before ms
were_more b links before [] r ms all w = (w, tt)
were_more b links before (q ∷ rs) r [] all w = (
  all.0,
  were_more b links before rs r [] all.1 (unread_was (lines_memo b) links r before (first_of (drop (length rs) [])) (none_past (length rs))),
)
were_more b links before (q ∷ rs) r (m ∷ ms) all w = (all.0, were_more b links before rs r ms all.1 w)

among_more : (t : Table) (rs : List (Option RowRef)) (r : Option RowRef) (ms : List PageMemo) → AreAmong t rs ms →
    (is_unread (first_of (drop (length rs) ms)) ≡ false → IfSome r (λ s. IsAmong t s)) → AreAmong t (rs ++ r ∷ []) ms
among_more t [] r ms all w = (w, tt)
among_more t (q ∷ rs) r [] all w = (
  all.0,
  among_more t rs r [] all.1 (λ k. absurd (true≢false (sym (none_past (length rs)) ∙ k))),
)
among_more t (q ∷ rs) r (m ∷ ms) all w = (all.0, among_more t rs r ms all.1 w)

-- what was kept for the rows before a place doesn't rest on what is kept there
were_set : (b : Block) (links : List ℕ) (before : Outcomes) (rs : List (Option RowRef)) (m : PageMemo) (ms : List PageMemo) → WereEach b links rs before ms →
    WereEach b links rs before (slice_set ms (length rs) m)
were_set b links before [] m ms all = tt
were_set b links before (q ∷ rs) m [] all = all
were_set b links before (q ∷ rs) m (k ∷ ms) all = (all.0, were_set b links before rs m ms all.1)

among_set : (t : Table) (rs : List (Option RowRef)) (m : PageMemo) (ms : List PageMemo) → AreAmong t rs ms → AreAmong t rs (slice_set ms (length rs) m)
among_set t [] m ms all = tt
among_set t (q ∷ rs) m [] all = all
among_set t (q ∷ rs) m (k ∷ ms) all = (all.0, among_set t rs m ms all.1)

-- ---- rows of two tables

-- the rows up to the next place
up_to : (u : Table) (n : ℕ) → places_from u 0 n ++ Some (row_at u n) ∷ [] ≡ places_from u 0 (n + 1)
up_to u n =
    let e : n ≡ 0 + n = omega arith in
    ap (λ z. places_from u 0 n ++ Some (row_at u z) ∷ []) e ∙ sym (places_more u 0 n)

-- what is kept at a place serves
stand_more : (t u : Table) (n : ℕ) (old ms : List PageMemo) → RowsStand t u n old ms →
    ((b : Block) (links : List ℕ) (before : Outcomes) → SlotsWere b links t 0 before old →
    WasMadeIfRead (lines_memo b) links (Some (row_at u n)) before (first_of (drop n ms))) →
    (is_unread (first_of (drop n ms)) ≡ false → IsAmong t (row_at u n)) → RowsStand t u (n + 1) old ms
stand_more t u n old ms x serves among =
    let c = how_many u 0 n in
    record {
      left = x.left;
      serve = λ b links before s.
          subst (λ z. WereEach b links z before ms) (up_to u n)
          (were_more b links before (places_from u 0 n) (Some (row_at u n)) ms (x.serve b links before s)
          (subst (λ z. WasMadeIfRead (lines_memo b) links (Some (row_at u n)) before (first_of (drop z ms))) (sym c) (serves b links before s)));
      among = subst (λ z. AreAmong t z ms) (up_to u n)
          (among_more t (places_from u 0 n) (Some (row_at u n)) ms x.among
          (subst (λ z. is_unread (first_of (drop z ms)) ≡ false → IsAmong t (row_at u n)) (sym c) among));
    }

-- a row that is alike
pub row_stands : (t u : Table) (n : ℕ) (old ms : List PageMemo) → n < length t.rows → same_here (row_at t n) (row_at u n) ≡ true → RowsStand t u n old ms →
    RowsStand t u (n + 1) old ms
row_stands t u n old ms lt same x =
    stand_more t u n old ms x
    (λ b links before s. like_row b links (row_at t n) (row_at u n) before (first_of (drop n ms)) same
    (slot_first b links t before 0 n n ms (omega arith) lt (x.left b links before s)))
    (λ k. record { place = n; inside = lt; same = same })

-- a row for which nothing is kept
pub row_left : (t u : Table) (n : ℕ) (old ms ks : List PageMemo) → ks ≡ slice_set ms n unread → RowsStand t u n old ms → RowsStand t u (n + 1) old ks
row_left t u n old ms ks e x =
    let none : is_unread (first_of (drop n ks)) ≡ true = ap (λ z. is_unread (first_of (drop n z))) e ∙ none_put n ms in
    let c = how_many u 0 n in
    let set : slice_set ms (length (places_from u 0 n)) unread ≡ ks = ap (λ z. slice_set ms z unread) c ∙ sym e in
    let y : RowsStand t u n old ks = record {
      left = λ b links before s. subst (SlotsWere b links t 0 before) (sym e) (slot_out b links t before 0 n ms (x.left b links before s));
      serve = λ b links before s.
          subst (WereEach b links (places_from u 0 n) before) set (were_set b links before (places_from u 0 n) unread ms (x.serve b links before s));
      among = subst (AreAmong t (places_from u 0 n)) set (among_set t (places_from u 0 n) unread ms x.among);
    } in
    stand_more t u n old ks y (λ b links before s. unread_was (lines_memo b) links (Some (row_at u n)) before (first_of (drop n ks)) none)
    (λ k. absurd (true≢false (sym none ∙ k)))

-- no row yet
pub none_stand : (t u : Table) (ms : List PageMemo) → RowsStand t u 0 ms ms
none_stand t u ms = record { left = λ b links before s. s; serve = λ b links before s. tt; among = tt }

-- ---- keys of rows

-- two rows have one key
abbrev SameKey : Option Row → Option Row → Type 0
SameKey (Some r) (Some s) = r.key ≡ s.key
SameKey r s = Unit {0}

-- rows that are the same have one key
one_key : (r s : Option Row) → same_place r s ≡ true → SameKey r s
one_key (Some r) (Some s) e =
    (bytes_eq-Decides r.key s.key).0 (and_parts (bytes_eq r.key s.key) (pointwise same_scalar r.values s.values) e).0
one_key (Some r) None e = tt
one_key None (Some s) e = tt
one_key None None e = tt

keys_from : (was rows : List Row) (n : ℕ) → n < length was → n < length rows → SameKey (slice_get was n) (slice_get rows n) →
    keys (drop (suc n) was) ≡ keys (drop (suc n) rows) → keys (drop n was) ≡ keys (drop n rows)
keys_from [] rows n lt lu same e = absurd (omega (arith, lt))
keys_from (r ∷ was) [] n lt lu same e = absurd (omega (arith, lu))
keys_from (r ∷ was) (s ∷ rows) zero lt lu same e = λ i. same i ∷ e i
keys_from (r ∷ was) (s ∷ rows) (suc n) lt lu same e = keys_from was rows n (omega (arith, lt)) (omega (arith, lu)) same e

keys_on : (was rows : List Row) (n : ℕ) → n < length was → n < length rows → SameKey (slice_get was n) (slice_get rows n) → KeysLeft was rows n →
    KeysLeft was rows (n + 1)
keys_on was rows n lt lu same all e =
    let next : n + 1 ≡ suc n = omega arith in
    all (keys_from was rows n lt lu same (subst (λ z. keys (drop z was) ≡ keys (drop z rows)) next e))

-- a row that is alike
pub alike_keys : (t u : Table) (n : ℕ) → n < length t.rows → n < length u.rows → same_here (row_at t n) (row_at u n) ≡ true → KeysLeft t.rows u.rows n →
    KeysLeft t.rows u.rows (n + 1)
alike_keys t u n lt lu same all =
    let here : same_place (slice_get t.rows n) (slice_get u.rows n) ≡ true =
    (and_parts (pointwise bytes_eq t.fields u.fields) (same_place (slice_get t.rows n) (slice_get u.rows n)) same).1 in
    keys_on t.rows u.rows n lt lu (one_key (slice_get t.rows n) (slice_get u.rows n) here) all

-- a row of the same key
pub same_keys : (was rows : List Row) (n : ℕ) (r s : Row) → n < length was → n < length rows → slice_get was n ≡ Some r → slice_get rows n ≡ Some s →
    bytes_eq r.key s.key ≡ true → KeysLeft was rows n → KeysLeft was rows (n + 1)
same_keys was rows n r s lt lu er es same all =
    let key : r.key ≡ s.key = (bytes_eq-Decides r.key s.key).0 same in
    keys_on was rows n lt lu (subst (λ z. SameKey z (slice_get rows n)) (sym er) (subst (SameKey (Some r)) (sym es) key)) all
