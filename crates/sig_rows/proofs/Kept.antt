-- Rows stay rows when they are edited.
use Rattle.std.proofs.Common.{◌≡◌, ℕ, ◌<◌, Bool, true, false, cond, List, [], ◌∷◌, length, refl, sym, ap₂, ◌∙◌, arith, inl, inr}
use Rattle.std.specs.List.{list_any, All, AllByRecursion}
use Rattle.std.specs.List.Sorted.{IsPermutation}
use Rattle.std.specs.Str.{bytes_eq}
use Rattle.std.proofs.lemmas.Bool.{cases_Bool}
use Rattle.std.proofs.lemmas.List.{length-set}
use Rattle.std.proofs.lemmas.List.Elements.{All-filter, All-from_recursion, recursion_from_All}
use Rattle.std.proofs.lemmas.List.Sorted.{All-permutation, IsPermutation-insert, IsPermutation-map, length_permutation}
use Rattle.std.proofs.lemmas.Map.Keys.{IsDistinct-IsPermutation, IsDistinct-cons}
use Rattle.std.proofs.lemmas.Slice.Eq.{bytes_eq-Decides}
use Rattle.sig_base.specs.declared.limits.TheConstants.{MOST_ROWS}
use Rattle.sig_base.specs.declared.rows.Row.{Row}
use Rattle.sig_base.specs.declared.scalar.Scalar.{Scalar}
use Rattle.sig_base.specs.Tables.{AreRows, keys_of}
use Rattle.sig_rows.specs.Edits.{changed, has_key, with_row, with_value}
use Rattle.sig_rows.specs.Found.{IsRowOf}

bytes_flip : (s t : List ℕ) → bytes_eq s t ≡ bytes_eq t s
bytes_flip s t = elim (cases_Bool (bytes_eq s t)) [
  | inl e ↦ e ∙ sym ((bytes_eq-Decides t s).1 (sym ((bytes_eq-Decides s t).0 e)))
  | inr e ↦ elim (cases_Bool (bytes_eq t s)) [
    | inl f ↦ absurd (let g : bytes_eq s t ≡ true = (bytes_eq-Decides s t).1 (sym ((bytes_eq-Decides t s).0 f)) in cc)
    | inr f ↦ e ∙ sym f
  ]
]

-- as many values as fields
abbrev pub Fills : List (List ℕ) → Row → Type 0
Fills fields r = length r.values ≡ length fields

-- rows in another order
pub reordered : (fields : List (List ℕ)) (rows others : List Row) → IsPermutation rows others → AreRows fields rows → AreRows fields others
reordered fields rows others p h = record {
  few_fields = h.few_fields;
  distinct_fields = h.distinct_fields;
  no_key_field = h.no_key_field;
  few_rows = omega (arith, h.few_rows, length_permutation rows others p);
  distinct_keys = IsDistinct-IsPermutation bytes_eq bytes_flip (keys_of rows) (keys_of others) (IsPermutation-map (λ (r : Row). r.key) rows others p) h.distinct_keys;
  one_value_each = All-permutation (Fills fields) rows others p h.one_value_each;
}

-- a key that no row has
fresh : (key : List ℕ) (rows : List Row) → list_any (has_key key) rows ≡ false → AllByRecursion (λ k. bytes_eq key k ≡ false) (keys_of rows)
fresh key [] h = tt
fresh key (x ∷ xs) h = elim (cases_Bool (has_key key x)) [
  | inl e ↦ absurd (let there : list_any (has_key key) (x ∷ xs) ≡ true = rw e refl in cc)
  | inr e ↦ (bytes_flip key x.key ∙ e, fresh key xs (rw e at h))
]

-- rows with one more in front
one_more : (fields : List (List ℕ)) (rows : List Row) (row : Row) → AreRows fields rows → list_any (has_key row.key) rows ≡ false → Fills fields row
    → length rows < MOST_ROWS → AreRows fields (row ∷ rows)
one_more fields rows row h free fills room = record {
  few_fields = h.few_fields;
  distinct_fields = h.distinct_fields;
  no_key_field = h.no_key_field;
  few_rows = omega arith;
  distinct_keys = IsDistinct-cons bytes_eq row.key (keys_of rows) (fresh row.key rows free) h.distinct_keys;
  one_value_each = All-from_recursion (Fills fields) (row ∷ rows) (fills, recursion_from_All (Fills fields) rows h.one_value_each);
}

-- rows with one more at a place
pub inserted : (fields : List (List ℕ)) (rows : List Row) (place : ℕ) (row : Row) → AreRows fields rows → list_any (has_key row.key) rows ≡ false
    → Fills fields row → length rows < MOST_ROWS → AreRows fields (with_row place row rows)
inserted fields rows place row h free fills room =
    reordered fields (row ∷ rows) (with_row place row rows) (IsPermutation-insert rows place row) (one_more fields rows row h free fills room)

-- ---- another scalar

same_key : (b : Bool) (at : ℕ) (v : Scalar) (r : Row) → (cond b (with_value at v r) r).key ≡ r.key
same_key true at v r = refl
same_key false at v r = refl

same_keys : (key : List ℕ) (at : ℕ) (v : Scalar) (rows : List Row) → keys_of (changed key at v rows) ≡ keys_of rows
same_keys key at v [] = refl
same_keys key at v (x ∷ xs) = ap₂ (λ (k : List ℕ) (ks : List (List ℕ)). k ∷ ks) (same_key (has_key key x) at v x) (same_keys key at v xs)

same_count : (key : List ℕ) (at : ℕ) (v : Scalar) (rows : List Row) → length (changed key at v rows) ≡ length rows
same_count key at v [] = refl
same_count key at v (x ∷ xs) = omega (arith, same_count key at v xs)

still_fills : (b : Bool) (fields : List (List ℕ)) (at : ℕ) (v : Scalar) (r : Row) → Fills fields r → Fills fields (cond b (with_value at v r) r)
still_fills true fields at v r h = length-set r.values at v ∙ h
still_fills false fields at v r h = h

each_fills : (fields : List (List ℕ)) (key : List ℕ) (at : ℕ) (v : Scalar) (rows : List Row) → AllByRecursion (Fills fields) rows
    → AllByRecursion (Fills fields) (changed key at v rows)
each_fills fields key at v [] h = tt
each_fills fields key at v (x ∷ xs) h = (still_fills (has_key key x) fields at v x h.0, each_fills fields key at v xs h.1)

-- rows with another scalar
pub valued : (fields : List (List ℕ)) (key : List ℕ) (at : ℕ) (v : Scalar) (rows : List Row) → AreRows fields rows → AreRows fields (changed key at v rows)
valued fields key at v rows h = record {
  few_fields = h.few_fields;
  distinct_fields = h.distinct_fields;
  no_key_field = h.no_key_field;
  few_rows = omega (arith, h.few_rows, same_count key at v rows);
  distinct_keys = rw (same_keys key at v rows) h.distinct_keys;
  one_value_each = All-from_recursion (Fills fields) (changed key at v rows) (each_fills fields key at v rows (recursion_from_All (Fills fields) rows h.one_value_each));
}

-- each row has the place of a field
pub places : (fields : List (List ℕ)) (rows : List Row) (at : ℕ) → AreRows fields rows → at < length fields → All (λ (r : Row). at < length r.values) rows
places fields rows at h within = All-from_recursion (λ (r : Row). at < length r.values) rows (each rows (recursion_from_All (Fills fields) rows h.one_value_each)) where
  each : (rs : List Row) → AllByRecursion (Fills fields) rs → AllByRecursion (λ (r : Row). at < length r.values) rs
  each [] f = tt
  each (r ∷ rs) f = (let e = f.0 in omega arith, each rs f.1)

-- what holds of each row holds of the one with the key
pub of_each : (P : Row → Type 0) (key : List ℕ) (rows : List Row) (row : Row) → IsRowOf key rows row → All P rows → P row
of_each P key rows row f h = (recursion_from_All P (row ∷ []) (rw f.only at (All-filter (has_key key) P rows h))).0
