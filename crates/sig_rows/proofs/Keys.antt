-- Rows and fields that are looked up.
use Rattle.std.proofs.Common.{◌≡◌, ◌≢◌, ℕ, zero, suc, ◌<◌, Bool, true, false, not, get_or, Option, List, [], ◌∷◌, length, map, refl, sym, ◌∙◌, ap, arith, inl, inr}
use Rattle.std.specs.Prelude.{nat_lt, MatchOption}
use Rattle.std.specs.List.{list_any, position, position_or_len, AllByRecursion, IsDistinct}
use Rattle.std.specs.Str.{bytes_eq}
use Rattle.std.proofs.lemmas.Bool.{cases_Bool, lt-ltb, ltb-true}
use Rattle.std.proofs.lemmas.Bool.Decides.{nat_tests}
use Rattle.std.proofs.lemmas.Map.Keys.{IsDistinct-head, IsDistinct-tail}
use Rattle.std.proofs.lemmas.Slice.Eq.{bytes_eq-Decides}
use Rattle.sig_base.specs.declared.rows.Row.{Row}
use Rattle.sig_base.specs.Tables.{keys_of, marked}
use Rattle.sig_rows.specs.Edits.{has_key, row_of, without}
use Rattle.sig_rows.specs.Found.{IsFirstPlace, IsRowOf, IsRowPlace}

-- the key of a row that has it
pub key_is : (key : List ℕ) (r : Row) → has_key key r ≡ true → r.key ≡ key
key_is key r h = (bytes_eq-Decides r.key key).0 h

-- where texts differ at a place, they aren't the same
pub other_last : (n m : List ℕ) (i d : ℕ) → get_or n i d ≢ get_or m i d → bytes_eq n m ≡ false
other_last n m i d h = elim (cases_Bool (bytes_eq n m)) [
  | inl e ↦ absurd (h (ap (λ (l : List ℕ). get_or l i d) ((bytes_eq-Decides n m).0 e)))
  | inr e ↦ e
]

-- where all keys differ from one, no row has it
pub none_more : (key : List ℕ) (rows : List Row) → AllByRecursion (λ k. bytes_eq key k ≡ false) (keys_of rows) → (row_of key rows ≡ []) × (without key rows ≡ rows)
none_more key [] h = (refl, refl)
none_more key (x ∷ xs) h =
    let rest = none_more key xs h.1 in
    elim (cases_Bool (has_key key x)) [
      | inl e ↦ absurd (let same = sym (key_is key x e) in let found : bytes_eq key x.key ≡ true = (bytes_eq-Decides key x.key).1 same in cc)
      | inr e ↦ rw (e, rest.0, rest.1) (refl, refl)
    ]

-- the first row with the key is the only one
pub first_has : (key : List ℕ) (x : Row) (xs : List Row) → IsDistinct bytes_eq (keys_of (x ∷ xs)) → has_key key x ≡ true → IsRowOf key (x ∷ xs) x
first_has key x xs d h =
    let same = key_is key x h in
    let rest = none_more key xs (rw same at (IsDistinct-head bytes_eq x.key (keys_of xs) d)) in
    record { there = rw h refl; has = h; only = rw (h, rest.0) refl }

any_below : {A : Type 0} (p : A → Bool) (xs : List A) → list_any p xs ≡ nat_lt (position_or_len p xs) (length xs)
any_below p [] = refl
any_below p (x ∷ xs) = elim (cases_Bool (p x)) [
  | inl e ↦ rw e (sym (lt-ltb 0 (suc (length xs)) (omega arith)))
  | inr e ↦ rw e (any_below p xs ∙ grind (arith, nat_tests))
]

-- what the first place for which a test holds says
pub first_found : {A : Type 0} (test : A → Bool) (xs : List A) (found : Option ℕ) → found ≡ position test xs
    → MatchOption found (list_any test xs ≡ false) (IsFirstPlace test xs)
first_found test xs found e =
    let there = any_below test xs in
    rw e (elim (cases_Bool (nat_lt (position_or_len test xs) (length xs))) [
      | inl lt ↦ rw lt (record { there = there ∙ lt; within = ltb-true _ _ lt; is = refl })
      | inr ge ↦ rw ge (there ∙ ge)
    ])

-- the row at the place of a key
pub placed : (key : List ℕ) (rows : List Row) (d : Row) → IsDistinct bytes_eq (keys_of rows) → position_or_len (has_key key) rows < length rows
    → IsRowOf key rows (get_or rows (position_or_len (has_key key) rows) d)
placed key [] d h within = absurd (omega arith)
placed key (x ∷ xs) d h within = elim (cases_Bool (has_key key x)) [
  | inl e ↦ rw e (first_has key x xs h e)
  | inr e ↦
      let n = position_or_len (has_key key) xs in
      let behind : position_or_len (has_key key) (x ∷ xs) ≡ suc n = rw e (omega arith) in
      let f = placed key xs d (IsDistinct-tail bytes_eq x.key (keys_of xs) h) (omega (arith, behind)) in
      rw behind (record { there = rw e f.there; has = f.has; only = rw e f.only })
]

-- the rows that are marked as others are those without the key
pub marked_others : (key : List ℕ) (rows : List Row) → marked (map (λ (r : Row). not (has_key key r)) rows) rows ≡ without key rows
marked_others key [] = refl
marked_others key (x ∷ xs) = elim (cases_Bool (has_key key x)) [
  | inl e ↦ rw e (marked_others key xs)
  | inr e ↦ rw e (ap (λ (l : List Row). x ∷ l) (marked_others key xs))
]

differs : (key : List ℕ) (x d : Row) (rows : List Row) (place : ℕ) → AllByRecursion (λ k. bytes_eq x.key k ≡ false) (keys_of rows) → place < length rows
    → has_key key (get_or rows place d) ≡ true → has_key key x ≡ false
differs key x d [] place a within has = absurd (omega arith)
differs key x d (y ∷ ys) zero a within has = rw (key_is key y has) at a.0
differs key x d (y ∷ ys) (suc n) a within has = differs key x d ys n a.1 (omega arith) has

-- no row before one with the key has it
pub others_before : (key : List ℕ) (x d : Row) (xs : List Row) (n : ℕ) → IsDistinct bytes_eq (keys_of (x ∷ xs)) → n < length xs
    → has_key key (get_or xs n d) ≡ true → has_key key x ≡ false
others_before key x d xs n h within has = differs key x d xs n (IsDistinct-head bytes_eq x.key (keys_of xs) h) within has

-- a row that has the key stands at its place
pub place_is : (key : List ℕ) (rows : List Row) (place : ℕ) (d : Row) → IsDistinct bytes_eq (keys_of rows) → place < length rows
    → has_key key (get_or rows place d) ≡ true → position_or_len (has_key key) rows ≡ place
place_is key [] place d h within has = absurd (omega arith)
place_is key (x ∷ xs) zero d h within has = rw has refl
place_is key (x ∷ xs) (suc n) d h within has =
    let later : n < length xs = omega arith in
    let rest = place_is key xs n d (IsDistinct-tail bytes_eq x.key (keys_of xs) h) later has in
    rw (others_before key x d xs n h later has) (omega (arith, rest))

-- the place of a row is that of its key
pub own_place : (rows : List Row) (place : ℕ) (d : Row) → IsDistinct bytes_eq (keys_of rows) → place < length rows
    → IsRowPlace (get_or rows place d).key rows place
own_place rows place d h within =
    let key = (get_or rows place d).key in
    let is = place_is key rows place d h within ((bytes_eq-Decides key key).1 refl) in
    record { there = any_below (has_key key) rows ∙ (rw is (lt-ltb place (length rows) within)); within = within; is = sym is }
