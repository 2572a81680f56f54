-- The row with a key, by its place, and what becomes of the rows where it goes, is moved or has a new scalar.
use Rattle.std.proofs.Common.{◌≡◌, ℕ, ◌<◌, true, not, List, [], ◌∷◌, length, map, Some, get_or, set, sym, ap, subst, ◌∙◌, arith}
use Rattle.std.specs.List.{slice_get, IsDistinct}
use Rattle.std.specs.Str.{bytes_eq}
use Rattle.std.proofs.lemmas.Option.{get_or_from_slice_get}
use Rattle.sig_base.proofs.Marks.{AreRows-marked}
use Rattle.sig_base.specs.declared.rows.Row.{Row}
use Rattle.sig_base.specs.declared.scalar.Scalar.{Scalar}
use Rattle.sig_base.specs.Tables.{AreRows, keys_of}
use Rattle.sig_rows.specs.Edits.{changed, cut, has_key, moved, with_row, with_value, without}
use Rattle.sig_rows.specs.Found.{IsRowOf, IsRowPlace}
use Rattle.sig_rows.proofs.Kept.{of_each, places}
use Rattle.sig_rows.proofs.Keys.{marked_others, own_place, place_is, placed}
use Rattle.sig_rows.proofs.Moves.{changed_there, cut_there, put_back, stands, stays}

-- the row at the place of a key has it
pub there : (key : List ℕ) (rows : List Row) (place : ℕ) (row : Row) → IsDistinct bytes_eq (keys_of rows) → IsRowPlace key rows place
    → slice_get rows place ≡ Some row → IsRowOf key rows row
there key rows place row h p s =
    let here = get_or_from_slice_get rows place row row s in
    subst (λ r. IsRowOf key rows r) here (rw p.is (placed key rows row h (rw p.is at p.within)))

-- the place of a row is that of its key
pub own : (rows : List Row) (place : ℕ) (row : Row) → IsDistinct bytes_eq (keys_of rows) → place < length rows → slice_get rows place ≡ Some row
    → IsRowPlace row.key rows place
own rows place row h within s =
    subst (λ (r : Row). IsRowPlace r.key rows place) (get_or_from_slice_get rows place row row s) (own_place rows place row h within)

-- the rows without the one at the place of a key
pub taken : (key : List ℕ) (rows : List Row) (place : ℕ) → IsDistinct bytes_eq (keys_of rows) → IsRowPlace key rows place → without key rows ≡ cut place rows
taken key rows place h p = rw p.is (cut_there key rows h (rw p.is at p.within))

-- they are rows
pub cut_rows : (fields : List (List ℕ)) (rows : List Row) (place : ℕ) → AreRows fields rows → place < length rows → AreRows fields (cut place rows)
cut_rows fields [] place h within = absurd (omega arith)
cut_rows fields (x ∷ xs) place h within =
    let rows : List Row = x ∷ xs in
    let key = (get_or rows place x).key in
    let without = marked_others key rows ∙ taken key rows place h.distinct_keys (own_place rows place x h.distinct_keys within) in
    subst (λ (rs : List Row). AreRows fields rs) without (AreRows-marked fields rows (map (λ (r : Row). not (has_key key r)) rows) h)

-- the row that is put at another place
pub moved_there : (key : List ℕ) (rows : List Row) (row : Row) (from to : ℕ) → IsDistinct bytes_eq (keys_of rows) → IsRowPlace key rows from
    → slice_get rows from ≡ Some row → with_row to row (cut from rows) ≡ moved key to rows
moved_there key rows row from to h p s =
    ap (λ (l : List Row). with_row to row l) (sym (taken key rows from h p)) ∙ put_back key rows row to (there key rows from row h p s)

-- it changes the rows
pub moves : (key : List ℕ) (rows : List Row) (row : Row) (from to : ℕ) → IsDistinct bytes_eq (keys_of rows) → IsRowPlace key rows from
    → slice_get rows from ≡ Some row → to < length rows → (from ≡ to → ⊥) → moved key to rows ≡ rows → ⊥
moves key rows row from to h p s within other same =
    let f = there key rows from row h p s in
    let has : has_key key (get_or rows to row) ≡ true = ap (λ (l : List Row). has_key key (get_or l to row)) (sym same) ∙ stands key rows row row to f within in
    other (p.is ∙ place_is key rows to row h within has)

-- the row that stands at the place already
pub stays_there : (key : List ℕ) (rows : List Row) (place : ℕ) → IsDistinct bytes_eq (keys_of rows) → IsRowPlace key rows place → moved key place rows ≡ rows
stays_there key [] place h p = absurd (let within = p.within in omega arith)
stays_there key (x ∷ xs) place h p =
    let f : IsRowOf key (x ∷ xs) (get_or (x ∷ xs) place x) = rw p.is (placed key (x ∷ xs) x h (rw p.is at p.within)) in
    stays key (x ∷ xs) place x h p.within f.has

-- it has the place of each field
pub has_place : (fields : List (List ℕ)) (rows : List Row) (place : ℕ) (row : Row) (at : ℕ) → AreRows fields rows → place < length rows
    → slice_get rows place ≡ Some row → at < length fields → at < length row.values
has_place fields rows place row at h within s short =
    let f = there row.key rows place row h.distinct_keys (own rows place row h.distinct_keys within s) s in
    of_each (λ (r : Row). at < length r.values) row.key rows row f (places fields rows at h short)

-- rows of which the one at the place of a key has a new scalar
pub put_there : (key : List ℕ) (at : ℕ) (v : Scalar) (rows list : List Row) (place : ℕ) (row : Row) → IsDistinct bytes_eq (keys_of rows) → IsRowPlace key rows place
    → slice_get rows place ≡ Some row → list ≡ set rows place (with_value at v row) → list ≡ changed key at v rows
put_there key at v rows list place row h p s e =
    let here = get_or_from_slice_get rows place row row s in
    let all : changed key at v rows ≡ set rows place (with_value at v (get_or rows place row)) = rw p.is (changed_there key at v rows row h (rw p.is at p.within)) in
    e ∙ ap (λ r. set rows place (with_value at v r)) (sym here) ∙ sym all
