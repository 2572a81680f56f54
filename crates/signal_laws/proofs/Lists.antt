-- What is in a list, and what holds of each in it.
use Rattle.std.proofs.Common.{◌≡◌, ℕ, ◌==◌, ◌||◌, Bool, true, false, List, [], ◌∷◌, ◌++◌, refl, ap, ◌∙◌}
use Rattle.std.proofs.lemmas.Bool.{eq-eqb}
use Rattle.signal_model.specs.Signals.{is_in}
use Rattle.signal_model.proofs.Shared.{or_right}
use Rattle.std.specs.List.{AllByRecursion}

-- it holds of two lists, one behind the other
pub all_append : {A : Type 0} (P : A → Type 0) (xs ys : List A) → AllByRecursion P xs → AllByRecursion P ys → AllByRecursion P (xs ++ ys)
all_append P [] ys h g = g
all_append P (x ∷ xs) ys h g = (h.0, all_append P xs ys h.1 g)

-- and of one more
pub all_snoc : {A : Type 0} (P : A → Type 0) (xs : List A) (x : A) → AllByRecursion P xs → P x → AllByRecursion P (xs ++ x ∷ [])
all_snoc P xs x h p = all_append P xs (x ∷ []) h (p, tt)

-- a head is in its list
pub in_head : (m : ℕ) (ms : List ℕ) → is_in m (m ∷ ms) ≡ true
in_head m ms = let e : (m == m) ≡ true = eq-eqb m m refl in rw e refl

-- what is in the tail is in the list
pub in_tail : (m x : ℕ) (ms : List ℕ) → is_in m ms ≡ true → is_in m (x ∷ ms) ≡ true
in_tail m x ms h = or_right (m == x) (is_in m ms) h

-- what is in two lists
pub in_append : (m : ℕ) (xs ys : List ℕ) → is_in m (xs ++ ys) ≡ (is_in m xs || is_in m ys)
in_append m [] ys = refl
in_append m (x ∷ xs) ys = ap (λ b. m == x || b) (in_append m xs ys) ∙ shift (m == x) (is_in m xs) (is_in m ys)
  where
    shift : (a b c : Bool) → (a || (b || c)) ≡ ((a || b) || c)
    shift true b c = refl
    shift false b c = refl
