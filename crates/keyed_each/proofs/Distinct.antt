-- Distinct keys: none is listed among those after it.
use Rattle.std.proofs.Common.{◌≡◌, ℕ, suc, ◌<◌, true, false, get_or, List, [], ◌∷◌, ◌++◌, length, drop, Bool, Option, Some, None, is_some, Decides, refl, sym, ap, subst, ◌∙◌, ◌+◌, add-one, append_assoc, inl, inr}
use Rattle.std.specs.Prelude.{MatchOption}
use Rattle.std.specs.List.{list_any, position, AllByRecursion, IsDistinct}
use Rattle.std.proofs.Math.Seq.{drop-cons}
use Rattle.std.proofs.lemmas.Option.{slice_get-get_or}
use Rattle.std.proofs.lemmas.Bool.{cases_Bool}
use Rattle.std.proofs.lemmas.List.Quantifiers.{position-Some}
use Rattle.std.proofs.lemmas.Map.Keys.{IsDistinct-head, IsDistinct-tail}
use Rattle.indexmap.specs.IndexSet.{insert_key}
use Rattle.keyed_each.specs.Steps.{listed}
use Rattle.keyed_each.specs.Queue.{IsPlaceOf}

module _ {A : Type 0} (eq : A → A → Bool) where
  -- each key differs from all after it
  abbrev pub Apart : List A → Type 0
  Apart [] = Unit {0}
  Apart (x ∷ xs) = (listed eq x xs ≡ false) × Apart xs

module _ {A : Type 0} (eq : A → A → Bool) (decides : (x y : A) → Decides (eq x y) (x ≡ y)) where
  flipped : (x y : A) → eq x y ≡ false → eq y x ≡ false
  flipped x y h = elim (cases_Bool (eq y x)) [
    | inl e ↦ absurd (let f : eq x y ≡ true = (decides x y).1 (sym ((decides y x).0 e)) in cc)
    | inr e ↦ e
  ]

  none_listed : (x : A) (xs : List A) → AllByRecursion (λ y. eq x y ≡ false) xs → listed eq x xs ≡ false
  none_listed x [] h = refl
  none_listed x (y ∷ ys) h = rw (flipped x y h.0) (none_listed x ys h.1)

  pub apart : (xs : List A) → IsDistinct eq xs → Apart eq xs
  apart [] d = tt
  apart (x ∷ xs) d = (none_listed x xs (IsDistinct-head eq x xs d), apart xs (IsDistinct-tail eq x xs d))

  -- a key behind others isn't listed among them
  pub fresh : (xs : List A) (k : A) (ks : List A) → IsDistinct eq (xs ++ k ∷ ks) → listed eq k xs ≡ false
  fresh [] k ks d = refl
  fresh (x ∷ xs) k ks d = rw (behind xs (IsDistinct-head eq x (xs ++ k ∷ ks) d)) (fresh xs k ks (IsDistinct-tail eq x (xs ++ k ∷ ks) d)) where
    behind : (ys : List A) → AllByRecursion (λ y. eq x y ≡ false) (ys ++ k ∷ ks) → eq x k ≡ false
    behind [] h = h.0
    behind (y ∷ ys) h = behind ys h.1

  -- the test by which a table looks for a key
  pub listed_any : (k : A) (xs : List A) → list_any (eq k) xs ≡ listed eq k xs
  listed_any k [] = refl
  listed_any k (x ∷ xs) = elim (cases_Bool (eq k x)) [
    | inl e ↦ (let f : eq x k ≡ true = (decides x k).1 (sym ((decides k x).0 e)) in rw (e, f) refl)
    | inr e ↦ rw (e, flipped k x e) (listed_any k xs)
  ]

  -- the key at a place isn't among those before it, so it is put behind them
  pub one_added : (done list after : List A) (i : ℕ) (k : A) → i < length list → k ≡ get_or list i k → after ≡ insert_key eq done k
      → (IsDistinct eq list → done ++ drop i list ≡ list) → IsDistinct eq list → after ++ drop (i + 1) list ≡ list
  one_added done list after i k within is added all d =
      let e : drop i list ≡ k ∷ drop (suc i) list = drop-cons list i k within ∙ ap (λ (x : A). x ∷ drop (suc i) list) (sym is) in
      let whole : IsDistinct eq (done ++ k ∷ drop (suc i) list) = subst (IsDistinct eq) (sym (ap (λ z. done ++ z) (sym e) ∙ all d)) d in
      let none : list_any (eq k) done ≡ false = listed_any k done ∙ fresh done k (drop (suc i) list) whole in
      let behind : after ≡ done ++ k ∷ [] = added ∙ (rw none refl) in
      ap (λ z. z ++ drop (i + 1) list) behind
      ∙ (append_assoc done (k ∷ []) (drop (i + 1) list)
      ∙ (ap (λ n. done ++ k ∷ drop n list) (add-one i) ∙ (sym (ap (λ z. done ++ z) e) ∙ all d)))

  -- what the place of a key says
  pub found_place : (k : A) (xs : List A) (found : Option ℕ) → found ≡ position (eq k) xs → is_some found ≡ list_any (eq k) xs
      → MatchOption found (listed eq k xs ≡ false) (IsPlaceOf k xs)
  found_place k xs None e there = sym (there ∙ listed_any k xs)
  found_place k xs (Some p) e there =
      let s = position-Some (eq k) xs p k (sym e) in
      record { within = s.0; there = slice_get-get_or xs p k s.0 ∙ ap Some (sym ((decides k (get_or xs p k)).0 s.1)) }
