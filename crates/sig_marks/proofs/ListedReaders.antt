-- Readers in a list without repetition.
use Rattle.std.proofs.Common.{◌≡◌, ℕ, zero, suc, ◌+◌, ◌<◌, ◌==◌, ◌||◌, Bool, true, false, cond, if◌then◌else◌, List, [], ◌∷◌, ◌++◌, length, take, get_or, refl, sym, ap, ◌∙◌, arith, inl, inr, Option, Some, None}
use Rattle.std.specs.Prelude.{IfNone, IfSome, is_some, nat_eq, slice_get}
use Rattle.indexmap.specs.IndexSet.{insert_key}
use Rattle.std.specs.List.{list_any, remove}
use Rattle.std.proofs.lemmas.List.{take_more}
use Rattle.std.proofs.lemmas.Bool.{eqb-true, eq-eqb}
use Rattle.signal_model.specs.Laws.{AreDistinct}
use Rattle.signal_model.specs.Signals.{is_in}
use Rattle.signal_model.proofs.Shared.{tested, or_right}
use Rattle.sig_marks.proofs.LinkedSets.{apart}
use Rattle.sig_marks.proofs.PushedMarks.{is_in_append}

flip : (a b : ℕ) → (a == b) ≡ (b == a)
flip a b = elim (tested (a == b)) [
  | inl e ↦ e ∙ sym (eq-eqb b a (sym (eqb-true a b e)))
  | inr e ↦ e ∙ sym (apart b a (λ q. cc (sym (eq-eqb a b (sym q)) ∙ e)))
]

neither : (a b : Bool) → (a || b) ≡ false → (a ≡ false) × (b ≡ false)
neither true b q = cc
neither false b q = (refl, q)

none : (a b : Bool) → a ≡ false → b ≡ false → (a || b) ≡ false
none true b p q = cc
none false b p q = q

-- one more at the end
pub end_in : (xs : List ℕ) (r d : ℕ) → is_in d (xs ++ r ∷ []) ≡ (if r == d then true else is_in d xs)
end_in xs r d = is_in_append d xs (r ∷ []) ∙ ap (λ b. is_in d xs || (b || false)) (flip d r) ∙ by (is_in d xs) (r == d)
  where
    by : (x y : Bool) → (x || (y || false)) ≡ cond y true x
    by true true = refl
    by true false = refl
    by false true = refl
    by false false = refl

alone : (b : Bool) → b ≡ false → (b || false) ≡ false
alone true q = q
alone false q = refl

pub end_distinct : (xs : List ℕ) (r : ℕ) → AreDistinct xs → is_in r xs ≡ false → AreDistinct (xs ++ r ∷ [])
end_distinct [] r d h = (refl, tt)
end_distinct (x ∷ xs) r d h =
    let n : ((r == x) ≡ false) × (is_in r xs ≡ false) = neither (r == x) (is_in r xs) h in
    (is_in_append x xs (r ∷ []) ∙ none (is_in x xs) ((x == r) || false) d.0 (alone (x == r) (flip x r ∙ n.0)), end_distinct xs r d.1 n.1)

-- what stands at a place is in the list
pub there : (xs : List ℕ) (i r : ℕ) → slice_get xs i ≡ Some r → is_in r xs ≡ true
there [] i r h = cc
there (x ∷ xs) zero r h = let e : x ≡ r = cc h in ap (λ b. b || is_in r xs) (eq-eqb r x (sym e))
there (x ∷ xs) (suc i) r h = or_right (r == x) (is_in r xs) (there xs i r h)

-- without the one at a place
less_off : (xs : List ℕ) (i d : ℕ) → is_in d xs ≡ false → is_in d (remove xs i) ≡ false
less_off [] zero d h = refl
less_off [] (suc i) d h = refl
less_off (x ∷ xs) zero d h = (neither (d == x) (is_in d xs) h).1
less_off (x ∷ xs) (suc i) d h =
    let n : ((d == x) ≡ false) × (is_in d xs ≡ false) = neither (d == x) (is_in d xs) h in
    none (d == x) (is_in d (remove xs i)) n.0 (less_off xs i d n.1)

pub less_distinct : (xs : List ℕ) (i : ℕ) → AreDistinct xs → AreDistinct (remove xs i)
less_distinct [] zero d = tt
less_distinct [] (suc i) d = tt
less_distinct (x ∷ xs) zero d = d.1
less_distinct (x ∷ xs) (suc i) d = (less_off xs i x d.0, less_distinct xs i d.1)

-- a member of a list isn't what isn't in it
other : (xs : List ℕ) (x r : ℕ) → is_in x xs ≡ false → is_in r xs ≡ true → (r == x) ≡ false
other xs x r off on = apart r x (λ e. cc (sym on ∙ ap (λ z. is_in z xs) e ∙ off))

pub less_in : (xs : List ℕ) (i r d : ℕ) → AreDistinct xs → slice_get xs i ≡ Some r → is_in d (remove xs i) ≡ (if r == d then false else is_in d xs)
less_in [] i r d once h = cc
less_in (x ∷ xs) zero r d once h = let e : x ≡ r = cc h in by e (r == d) refl
  where
    by : x ≡ r → (b : Bool) → (r == d) ≡ b → is_in d xs ≡ cond b false (d == x || is_in d xs)
    by e true q = ap (λ z. is_in z xs) (sym (e ∙ eqb-true r d q)) ∙ once.0
    by e false q = ap (λ b. b || is_in d xs) (sym (ap (λ z. d == z) e ∙ flip d r ∙ q))
less_in (x ∷ xs) (suc i) r d once h = by (r == d) refl (less_in xs i r d once.1 h)
  where
    by : (b : Bool) → (r == d) ≡ b → is_in d (remove xs i) ≡ cond (r == d) false (is_in d xs) → (d == x || is_in d (remove xs i)) ≡ cond (r == d) false (d == x || is_in d xs)
    by true q f =
        let gone : is_in d (remove xs i) ≡ false = f ∙ ap (λ b. cond b false (is_in d xs)) q in
        let off : (d == x) ≡ false = ap (λ z. z == x) (sym (eqb-true r d q)) ∙ other xs x r once.0 (there xs i r h) in
        none (d == x) (is_in d (remove xs i)) off gone ∙ sym (ap (λ b. cond b false (d == x || is_in d xs)) q)
    by false q f =
        let kept : is_in d (remove xs i) ≡ is_in d xs = f ∙ ap (λ b. cond b false (is_in d xs)) q in
        ap (λ b. d == x || b) kept ∙ sym (ap (λ b. cond b false (d == x || is_in d xs)) q)

-- what was found, and what wasn't
pub found_there : (xs : List ℕ) (r : ℕ) (o : Option ℕ) → IfSome o (λ p. slice_get xs p ≡ Some r) → is_some o ≡ true → is_in r xs ≡ true
found_there xs r None h e = cc
found_there xs r (Some p) h e = there xs p r h

pub found_gone : (o : Option ℕ) (P : Type 0) → IfNone o P → is_some o ≡ false → P
found_gone None P h e = h
found_gone (Some p) P h e = cc

-- what is in a list is in it once more
pub same_in : (xs : List ℕ) (r d : ℕ) → is_in r xs ≡ true → is_in d xs ≡ (if r == d then true else is_in d xs)
same_in xs r d h = by (r == d) refl
  where
    by : (b : Bool) → (r == d) ≡ b → is_in d xs ≡ cond b true (is_in d xs)
    by true q = ap (λ z. is_in z xs) (sym (eqb-true r d q)) ∙ h
    by false q = refl

-- one more of those that were looked at isn't the one that is looked for
pub step_off : (xs : List ℕ) (i d r : ℕ) → i < length xs → (get_or xs i d == r) ≡ false → is_in r (take i xs) ≡ false → is_in r (take (i + 1) xs) ≡ false
step_off xs i d r l e h =
    ap (is_in r) (take_more xs i d l) ∙ is_in_append r (take i xs) (get_or xs i d ∷ [])
    ∙ none (is_in r (take i xs)) ((r == get_or xs i d) || false) h (alone (r == get_or xs i d) (flip r (get_or xs i d) ∙ e))

-- what stands at a place isn't before it
pub fresh_at : (xs : List ℕ) (i d : ℕ) → AreDistinct xs → i < length xs → list_any (nat_eq (get_or xs i d)) (take i xs) ≡ false
fresh_at [] i d once l = absurd (omega arith)
fresh_at (x ∷ xs) zero d once l = refl
fresh_at (x ∷ xs) (suc i) d once l =
    let k : i < length xs = omega arith in
    none (get_or xs i d == x) (list_any (nat_eq (get_or xs i d)) (take i xs)) (other xs x (get_or xs i d) once.0 (here xs i k)) (fresh_at xs i d once.1 k)
  where
    here : (ys : List ℕ) (j : ℕ) → j < length ys → is_in (get_or ys j d) ys ≡ true
    here [] j m = absurd (omega arith)
    here (y ∷ ys) zero m = ap (λ b. b || is_in y ys) (eq-eqb y y refl)
    here (y ∷ ys) (suc j) m = let n : j < length ys = omega arith in or_right (get_or ys j d == y) (is_in (get_or ys j d) ys) (here ys j n)

-- an index of the first ones, with one more
pub indexed_on : (xs ks : List ℕ) (i : ℕ) → AreDistinct xs → i < length xs → ks ≡ take i xs → insert_key nat_eq ks (get_or xs i 0) ≡ take (i + 1) xs
indexed_on xs ks i once l e =
    let x : ℕ = get_or xs i 0 in
    ap (λ ys. insert_key nat_eq ys x) e ∙ ap (λ b. if b then take i xs else take i xs ++ x ∷ []) (fresh_at xs i 0 once l) ∙ sym (take_more xs i 0 l)
