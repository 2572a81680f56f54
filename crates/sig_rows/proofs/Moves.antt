-- What a move and a new scalar change, and where they change nothing.
use Rattle.std.proofs.Common.{◌≡◌, ℕ, zero, suc, ◌+◌, ◌<◌, true, not, get_or, List, [], ◌∷◌, ◌++◌, length, take, drop, set, refl, sym, ap, subst, ◌∙◌, arith, inl, inr, append_assoc}
use Rattle.std.specs.List.{IsDistinct, position_or_len}
use Rattle.std.specs.List.Sorted.{IsPermutation}
use Rattle.std.specs.Str.{bytes_eq}
use Rattle.std.proofs.Math.Seq.{get_or-append_seam}
use Rattle.std.proofs.lemmas.Bool.{cases_Bool}
use Rattle.std.proofs.lemmas.List.{take-append-drop, length-take, get_or-set_same, set-get_or}
use Rattle.std.proofs.lemmas.List.Filters.{length-filter_both}
use Rattle.std.proofs.lemmas.List.Sorted.{IsPermutation-append_comm, IsPermutation-append_left, IsPermutation-filter_both, IsPermutation-trans}
use Rattle.std.proofs.lemmas.Map.Keys.{IsDistinct-head, IsDistinct-tail}
use Rattle.sig_base.specs.declared.rows.Row.{Row}
use Rattle.sig_base.specs.declared.scalar.Scalar.{Scalar}
use Rattle.sig_base.specs.Tables.{AreRows, keys_of}
use Rattle.sig_rows.specs.Edits.{changed, cut, has_key, moved, row_of, with_row, with_value, without}
use Rattle.sig_rows.specs.Found.{IsRowOf}
use Rattle.sig_rows.proofs.Keys.{key_is, none_more, others_before}
use Rattle.sig_rows.proofs.Kept.{reordered}

-- the others are one fewer
pub one_fewer : (key : List ℕ) (rows : List Row) (row : Row) → IsRowOf key rows row → length (without key rows) + 1 ≡ length rows
one_fewer key rows row f =
    let both = length-filter_both (has_key key) (λ (r : Row). not (has_key key r)) (λ r. refl) rows in
    let one = ap length f.only in
    omega arith

-- a list put between two parts of another
between : {A : Type 0} (xs ys : List A) (n : ℕ) → IsPermutation (xs ++ ys) (take n ys ++ (xs ++ drop n ys))
between {A = A} xs ys n =
    let front : IsPermutation (xs ++ take n ys) (take n ys ++ xs) = IsPermutation-append_comm xs (take n ys) in
    let whole : IsPermutation ((xs ++ take n ys) ++ drop n ys) ((take n ys ++ xs) ++ drop n ys) = IsPermutation-append_left (drop n ys) (xs ++ take n ys) (take n ys ++ xs) front in
    let from : (xs ++ take n ys) ++ drop n ys ≡ xs ++ ys = append_assoc xs (take n ys) (drop n ys) ∙ ap (λ (l : List A). xs ++ l) (take-append-drop n ys) in
    let to : (take n ys ++ xs) ++ drop n ys ≡ take n ys ++ (xs ++ drop n ys) = append_assoc (take n ys) xs (drop n ys) in
    rw (← from, ← to) whole

-- moved rows are the rows in another order
pub moved_rows : (fields : List (List ℕ)) (key : List ℕ) (place : ℕ) (rows : List Row) → AreRows fields rows → AreRows fields (moved key place rows)
moved_rows fields key place rows h =
    let own = row_of key rows in
    let others = without key rows in
    let parted : IsPermutation rows (own ++ others) = IsPermutation-filter_both (has_key key) (λ (r : Row). not (has_key key r)) (λ r. refl) rows in
    reordered fields rows (moved key place rows) (IsPermutation-trans rows (own ++ others) (moved key place rows) parted (between own others place)) h

-- a row is put where it was taken out
pub put_back : (key : List ℕ) (rows : List Row) (row : Row) (place : ℕ) → IsRowOf key rows row → with_row place row (without key rows) ≡ moved key place rows
put_back key rows row place f = rw f.only refl

-- the row that stands at its place already
pub stays : (key : List ℕ) (rows : List Row) (place : ℕ) (d : Row) → IsDistinct bytes_eq (keys_of rows) → place < length rows
    → has_key key (get_or rows place d) ≡ true → moved key place rows ≡ rows
stays key [] place d h within has = absurd (omega arith)
stays key (x ∷ xs) zero d h within has =
    let same = key_is key x has in
    let rest = none_more key xs (rw same at (IsDistinct-head bytes_eq x.key (keys_of xs) h)) in
    rw (has, rest.0, rest.1) refl
stays key (x ∷ xs) (suc n) d h within has =
    let later : n < length xs = omega arith in
    rw (others_before key x d xs n h later has) (ap (λ (l : List Row). x ∷ l) (stays key xs n d (IsDistinct-tail bytes_eq x.key (keys_of xs) h) later has))

-- the rows without the one at the place of a key
pub cut_there : (key : List ℕ) (rows : List Row) → IsDistinct bytes_eq (keys_of rows) → position_or_len (has_key key) rows < length rows
    → without key rows ≡ cut (position_or_len (has_key key) rows) rows
cut_there key [] h within = absurd (omega arith)
cut_there key (x ∷ xs) h within = elim (cases_Bool (has_key key x)) [
  | inl e ↦
      let same = key_is key x e in
      let rest = none_more key xs (rw same at (IsDistinct-head bytes_eq x.key (keys_of xs) h)) in
      rw (e, rest.1) refl
  | inr e ↦
      let n = position_or_len (has_key key) xs in
      let behind : position_or_len (has_key key) (x ∷ xs) ≡ suc n = rw e (omega arith) in
      let f = cut_there key xs (IsDistinct-tail bytes_eq x.key (keys_of xs) h) (omega (arith, behind)) in
      rw (behind, e) (ap (λ (l : List Row). x ∷ l) f)
]

-- what was put at a place stands there
pub stands : (key : List ℕ) (rows : List Row) (row d : Row) (place : ℕ) → IsRowOf key rows row → place < length rows → has_key key (get_or (moved key place rows) place d) ≡ true
stands key rows row d place f within =
    let others = without key rows in
    let fewer = one_fewer key rows row f in
    let size : length (take place others) ≡ place = omega (arith, length-take {A = Row}) in
    let at : get_or (take place others ++ row ∷ drop place others) (length (take place others)) d ≡ row = get_or-append_seam (take place others) row (drop place others) d in
    let here : get_or (moved key place rows) place d ≡ row = rw f.only (subst (λ (n : ℕ). get_or (take place others ++ row ∷ drop place others) n d ≡ row) size at) in
    ap (has_key key) here ∙ f.has

-- ---- another scalar

none_changed : (key : List ℕ) (at : ℕ) (v : Scalar) (rows : List Row) → row_of key rows ≡ [] → changed key at v rows ≡ rows
none_changed key at v [] h = refl
none_changed key at v (x ∷ xs) h = elim (cases_Bool (has_key key x)) [
  | inl e ↦ absurd (let k : x ∷ row_of key xs ≡ [] = rw e at h in cc)
  | inr e ↦ rw e (ap (λ (l : List Row). x ∷ l) (none_changed key at v xs (rw e at h)))
]

-- the row with the key is changed where it stands
pub changed_there : (key : List ℕ) (at : ℕ) (v : Scalar) (rows : List Row) (d : Row) → IsDistinct bytes_eq (keys_of rows)
    → position_or_len (has_key key) rows < length rows
    → changed key at v rows ≡ set rows (position_or_len (has_key key) rows) (with_value at v (get_or rows (position_or_len (has_key key) rows) d))
changed_there key at v [] d h within = absurd (omega arith)
changed_there key at v (x ∷ xs) d h within = elim (cases_Bool (has_key key x)) [
  | inl e ↦
      let same = key_is key x e in
      let rest = none_more key xs (rw same at (IsDistinct-head bytes_eq x.key (keys_of xs) h)) in
      rw e (ap (λ (l : List Row). with_value at v x ∷ l) (none_changed key at v xs rest.0))
  | inr e ↦
      let n = position_or_len (has_key key) xs in
      let behind : position_or_len (has_key key) (x ∷ xs) ≡ suc n = rw e (omega arith) in
      let f = changed_there key at v xs d (IsDistinct-tail bytes_eq x.key (keys_of xs) h) (omega (arith, behind)) in
      rw (behind, e) (ap (λ (l : List Row). x ∷ l) f)
]

-- where the row stays as it is, all do
pub unchanged : (key : List ℕ) (at : ℕ) (v : Scalar) (rows : List Row) (row : Row) → row_of key rows ≡ row ∷ [] → with_value at v row ≡ row → changed key at v rows ≡ rows
unchanged key at v [] row h same = absurd cc
unchanged key at v (x ∷ xs) row h same = elim (cases_Bool (has_key key x)) [
  | inl e ↦
      let k : x ∷ row_of key xs ≡ row ∷ [] = rw e at h in
      let first : x ≡ row = cc in
      let rest : row_of key xs ≡ [] = cc in
      rw (e, none_changed key at v xs rest, first, same) refl
  | inr e ↦ rw e (ap (λ (l : List Row). x ∷ l) (unchanged key at v xs row (rw e at h) same))
]

-- where all stay as they are, the row does
pub row_unchanged : (key : List ℕ) (at : ℕ) (v : Scalar) (rows : List Row) (row : Row) → row_of key rows ≡ row ∷ [] → changed key at v rows ≡ rows → with_value at v row ≡ row
row_unchanged key at v [] row h same = absurd cc
row_unchanged key at v (x ∷ xs) row h same = elim (cases_Bool (has_key key x)) [
  | inl e ↦
      let k : x ∷ row_of key xs ≡ row ∷ [] = rw e at h in
      let first : x ≡ row = cc in
      let all : with_value at v x ∷ changed key at v xs ≡ x ∷ xs = rw e at same in
      let own : with_value at v x ≡ x = cc in
      rw (← first) own
  | inr e ↦ row_unchanged key at v xs row (rw e at h) (let all : x ∷ changed key at v xs ≡ x ∷ xs = rw e at same in cc)
]

-- the scalar of a row that stays as it is
pub held : (at : ℕ) (v d : Scalar) (row : Row) → at < length row.values → with_value at v row ≡ row → get_or row.values at d ≡ v
held at v d row within same =
    let values : set row.values at v ≡ row.values = ap (λ (r : Row). r.values) same in
    ap (λ (l : List Scalar). get_or l at d) (sym values) ∙ get_or-set_same row.values at v d within

-- the same scalar leaves the row as it is
pub same_row : (at : ℕ) (d : Scalar) (row : Row) → with_value at (get_or row.values at d) row ≡ row
same_row at d row = ap {A = List Scalar} {B = Row} (λ l. record { key = row.key; values = l }) (set-get_or row.values at d)
