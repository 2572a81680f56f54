-- Lemmas on keys.
use Rattle.std.proofs.Common.{◌≡◌, ℕ, suc, zero, ◌+◌, ◌<◌, ◌≤◌, ◌==◌, Bool, true, false, refl, sym, ap, ◌∙◌, arith, List, [], ◌∷◌, ◌++◌, drop, append_assoc, map, length, set, get_or, Some, slice_get, Decides, if◌then◌else◌, add-one, inl, inr}
use Rattle.std.proofs.Math.Seq.{drop-cons}
use Rattle.std.proofs.lemmas.Option.{none-some, same_Some}
use Rattle.std.proofs.lemmas.Bool.{cases_Bool, true≢false, false≢true}
use Rattle.std.proofs.lemmas.Bool.Decides.{nat_tests}
use Rattle.keyed_each.specs.declared.places.RowStep.TheVariants.{Keep, Insert, Move}
use Rattle.keyed_each.specs.declared.places.RowStep.{RowStep}
use Rattle.keyed_each.specs.Steps.{kept, listed, spot, taken}
use Rattle.keyed_each.specs.Queue.{first_waiting, judged, leads, left}
use Rattle.keyed_each.proofs.Distinct.{Apart}

-- what is known of a key that stands at p among distinct keys
pub record At {A : Type 0} (eq : A → A → Bool) (k : A) (p : ℕ) (w : List Bool) (xs : List A) : Type 0 where
  pub waits : listed eq k (left w xs) ≡ get_or w p false
  pub spot_is : spot eq k xs ≡ p
  pub rest : get_or w p false ≡ true → taken eq k (left w xs) ≡ left (set w p false) xs
  pub first : get_or w p false ≡ true → leads eq k (left w xs) ≡ (p == first_waiting w)

same_test : (p q : ℕ) → (p == q) ≡ (suc p == suc q)
same_test p q = grind (arith, nat_tests)

pub past : (w : List Bool) (i : ℕ) → i ≤ first_waiting w → i < length w → get_or w i false ≡ false → i + 1 ≤ first_waiting w
past [] i h l g = absurd (omega arith)
past (true ∷ bs) zero h l g = absurd (true≢false g)
past (true ∷ bs) (suc i) h l g = absurd (omega arith)
past (false ∷ bs) zero h l g = omega arith
past (false ∷ bs) (suc i) h l g = omega (arith, past bs i (omega arith) (omega arith) g)

pub here : (w : List Bool) (i : ℕ) → i ≤ first_waiting w → i < length w → get_or w i false ≡ true → i ≡ first_waiting w
here [] i h l g = absurd (omega arith)
here (true ∷ bs) zero h l g = refl
here (true ∷ bs) (suc i) h l g = absurd (omega arith)
here (false ∷ bs) zero h l g = absurd (false≢true g)
here (false ∷ bs) (suc i) h l g = ap suc (here bs i (omega arith) (omega arith) g)

pub first_within : (w : List Bool) → first_waiting w ≤ length w
first_within [] = omega arith
first_within (true ∷ bs) = omega arith
first_within (false ∷ bs) = omega (arith, first_within bs)

pub waits_past : (w : List Bool) (p : ℕ) → first_waiting w ≤ first_waiting (set w p false)
waits_past [] p = omega arith
waits_past (true ∷ bs) p = omega arith
waits_past (false ∷ bs) zero = omega arith
waits_past (false ∷ bs) (suc p) = omega (arith, waits_past bs p)

module _ {A : Type 0} (eq : A → A → Bool) (decides : (x y : A) → Decides (eq x y) (x ≡ y)) where
  pub marked_kept : (new old : List A) → left (map (λ (k : A). listed eq k new) old) old ≡ kept eq new old
  marked_kept new [] = refl
  marked_kept new (x ∷ xs) = elim (cases_Bool (listed eq x new)) [ inl e ↦ rw e (ap (λ ys. x ∷ ys) (marked_kept new xs)) | inr e ↦ rw e (marked_kept new xs) ]

  listed_left : (k : A) (w : List Bool) (xs : List A) → listed eq k xs ≡ false → listed eq k (left w xs) ≡ false
  listed_left k [] xs h = refl
  listed_left k (b ∷ bs) [] h = refl
  listed_left k (false ∷ bs) (x ∷ xs) h = elim (cases_Bool (eq x k)) [
    | inl e ↦ absurd (true≢false (rw e at h))
    | inr e ↦ listed_left k bs xs (rw e at h)
  ]
  listed_left k (true ∷ bs) (x ∷ xs) h = elim (cases_Bool (eq x k)) [
    | inl e ↦ absurd (true≢false (rw e at h))
    | inr e ↦ rw e (listed_left k bs xs (rw e at h))
  ]

  same_key : (x k : A) → eq x k ≡ true → x ≡ k
  same_key x k e = (decides x k).0 e

  pub none_waits : (k : A) (w : List Bool) (xs : List A) → listed eq k xs ≡ false → listed eq k (left w xs) ≡ false
  none_waits k w xs h = listed_left k w xs h

  zero_at : (k : A) (b : Bool) (bs : List Bool) (x : A) (xs : List A) → eq x k ≡ true → listed eq k xs ≡ false → At eq k 0 (b ∷ bs) (x ∷ xs)
  zero_at k true bs x xs e n = record {
    waits = rw e refl;
    spot_is = rw e refl;
    rest = λ h. rw e refl;
    first = λ h. rw e refl;
  }
  zero_at k false bs x xs e n = record {
    waits = listed_left k bs xs n;
    spot_is = rw e refl;
    rest = λ h. absurd (false≢true h);
    first = λ h. absurd (false≢true h);
  }

  suc_at : (k : A) (p : ℕ) (b : Bool) (bs : List Bool) (x : A) (xs : List A) → eq x k ≡ false → At eq k p bs xs → At eq k (suc p) (b ∷ bs) (x ∷ xs)
  suc_at k p true bs x xs e ih = record {
    waits = rw e ih.waits;
    spot_is = rw e (ap suc ih.spot_is);
    rest = λ h. rw e (ap (λ ys. x ∷ ys) (ih.rest h));
    first = λ h. rw e (grind (arith, nat_tests));
  }
  suc_at k p false bs x xs e ih = record {
    waits = ih.waits;
    spot_is = rw e (ap suc ih.spot_is);
    rest = ih.rest;
    first = λ h. ih.first h ∙ same_test p (first_waiting bs);
  }

  -- a key that is in the list isn't the one that the others differ from
  differs : (x k : A) (p : ℕ) (xs : List A) → listed eq x xs ≡ false → slice_get xs p ≡ Some k → eq x k ≡ false
  differs x k p [] n e = absurd (none-some k e)
  differs x k zero (y ∷ ys) n e = elim (cases_Bool (eq x k)) [
    | inl s ↦ absurd (
        let same : y ≡ x = same_Some y k e ∙ sym (same_key x k s) in
        let there : listed eq x (y ∷ ys) ≡ true = rw ((decides y x).1 same) refl in
        true≢false (sym there ∙ n))
    | inr s ↦ s
  ]
  differs x k (suc p) (y ∷ ys) n e = elim (cases_Bool (eq y x)) [
    | inl s ↦ absurd (true≢false (rw s at n))
    | inr s ↦ differs x k p ys (rw s at n) e
  ]

  pub at : (k : A) (p : ℕ) (w : List Bool) (xs : List A) → length w ≡ length xs → Apart eq xs → slice_get xs p ≡ Some k → At eq k p w xs
  at k p w [] l a e = absurd (none-some k e)
  at k p [] (x ∷ xs) l a e = absurd (omega arith)
  at k zero (b ∷ bs) (x ∷ xs) l a e =
      let same = same_Some x k e in
      zero_at k b bs x xs ((decides x k).1 same) (ap (λ i. listed eq i xs) (sym same) ∙ a.0)
  at k (suc p) (b ∷ bs) (x ∷ xs) l a e =
      suc_at k p b bs x xs (differs x k p xs a.0 e) (at k p bs xs (omega arith) a.1 e)

  pub not_there : (old : List A) (i : ℕ) (rest : List A) (k : A) (ks : List A) → listed eq k rest ≡ false → judged eq old i rest (k ∷ ks) ≡ Insert i ∷ judged eq old (i + 1) rest ks
  not_there old i rest k ks h = rw (h, add-one) refl

  pub there : (old : List A) (i : ℕ) (w : List Bool) (p : ℕ) (k : A) (ks : List A) → At eq k p w old → get_or w p false ≡ true → judged eq old i (left w old) (k ∷ ks) ≡ (if p == first_waiting w then Keep else Move p) ∷ judged eq old (i + 1) (left (set w p false) old) ks
  there old i w p k ks a g = rw (a.waits ∙ g, a.first g, a.rest g, a.spot_is, add-one) refl

  -- the steps so far and those still to come, once a new row has had its turn
  pub turned : (old new : List A) (i : ℕ) (w v : List Bool) (key : A) (step : RowStep) (steps pushed all : List RowStep) → i < length new → key ≡ get_or new i key
      → ((ks : List A) → judged eq old i (left w old) (key ∷ ks) ≡ step ∷ judged eq old (i + 1) (left v old) ks)
      → pushed ≡ steps ++ step ∷ [] → steps ++ judged eq old i (left w old) (drop i new) ≡ all
      → pushed ++ judged eq old (i + 1) (left v old) (drop (i + 1) new) ≡ all
  turned old new i w v key step steps pushed all within is turn push so_far =
      let front : drop i new ≡ key ∷ drop (suc i) new = drop-cons new i key within ∙ ap (λ (k : A). k ∷ drop (suc i) new) (sym is) in
      let later : drop (i + 1) new ≡ drop (suc i) new = ap (λ (n : ℕ). drop n new) (add-one i) in
      ap (λ (l : List RowStep). l ++ judged eq old (i + 1) (left v old) (drop (i + 1) new)) push
      ∙ append_assoc steps (step ∷ []) (judged eq old (i + 1) (left v old) (drop (i + 1) new))
      ∙ ap (λ (ks : List A). steps ++ step ∷ judged eq old (i + 1) (left v old) ks) later
      ∙ ap (λ (l : List RowStep). steps ++ l) (sym (turn (drop (suc i) new)))
      ∙ ap (λ (ks : List A). steps ++ judged eq old i (left w old) ks) (sym front)
      ∙ so_far
