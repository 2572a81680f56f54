-- Lists of different numbers.
use Rattle.std.proofs.Common.{◌≡◌, ◌≤◌, ◌<◌, ◌==◌, ◌||◌, ℕ, suc, arith, Bool, true, false, cond, List, [], ◌∷◌, ◌++◌, length, refl, sym, ap, ◌∙◌}
use Rattle.std.specs.List.{AllByRecursion}
use Rattle.std.proofs.lemmas.Bool.{eq-eqb, eqb-true}
use Rattle.signal_model.specs.Signals.{is_in}
use Rattle.effect_tables.specs.Consistency.{AreApart}

-- neither of two
pub neither : (a b : Bool) → a || b ≡ false → (a ≡ false) × (b ≡ false)
neither true b e = absurd cc
neither false b e = (refl, e)

-- a list without the first place of a number
abbrev minus : ℕ → List ℕ → List ℕ
minus n [] = []
minus n (m ∷ ms) = cond (n == m) ms (m ∷ minus n ms)

-- it is one shorter
shorter : (n : ℕ) (ms : List ℕ) → is_in n ms ≡ true → suc (length (minus n ms)) ≡ length ms
shorter n [] e = absurd cc
shorter n (m ∷ ms) e = at (n == m) e (shorter n ms)
  where
    at : (b : Bool) → b || is_in n ms ≡ true → (is_in n ms ≡ true → suc (length (minus n ms)) ≡ length ms) →
        suc (length (cond b ms (m ∷ minus n ms))) ≡ suc (length ms)
    at true h more = refl
    at false h more = ap suc (more h)

-- another number is in it still
still_in : (n k : ℕ) (ms : List ℕ) → (k == n) ≡ false → is_in k ms ≡ true → is_in k (minus n ms) ≡ true
still_in n k [] off e = absurd cc
still_in n k (m ∷ ms) off e = at (n == m) refl (k == m) refl e (still_in n k ms off)
  where
    at : (b : Bool) → (n == m) ≡ b → (d : Bool) → (k == m) ≡ d → d || is_in k ms ≡ true → (is_in k ms ≡ true → is_in k (minus n ms) ≡ true) →
        is_in k (cond b ms (m ∷ minus n ms)) ≡ true
    at true is true here h more =
        let same : k ≡ n = eqb-true k m here ∙ sym (eqb-true n m is) in
        let both : true ≡ false = sym (eq-eqb k n same) ∙ off in absurd cc
    at true is false here h more = h
    at false is true here h more = ap (λ (x : Bool). x || is_in k (minus n ms)) here
    at false is false here h more = ap (λ (x : Bool). x || is_in k (minus n ms)) here ∙ more h

-- each of them is in it still
all_still : (n : ℕ) (ks ms : List ℕ) → is_in n ks ≡ false → AllByRecursion (λ (k : ℕ). is_in k ms ≡ true) ks →
    AllByRecursion (λ (k : ℕ). is_in k (minus n ms) ≡ true) ks
all_still n [] ms off all = tt
all_still n (k ∷ ks) ms off all =
    let both = neither (n == k) (is_in n ks) off in
    (still_in n k ms (turned n k both.0) all.0, all_still n ks ms both.1 all.1)
  where
    turned : (a b : ℕ) → (a == b) ≡ false → (b == a) ≡ false
    turned a b e = other (b == a) refl
      where
        other : (d : Bool) → (b == a) ≡ d → (b == a) ≡ false
        other false h = h
        other true h = let t : true ≡ false = sym (eq-eqb a b (sym (eqb-true b a h))) ∙ e in absurd cc

-- different numbers that are all in a list are no more than it has
pub few_within : (ks ms : List ℕ) → AreApart ks → AllByRecursion (λ (k : ℕ). is_in k ms ≡ true) ks → length ks ≤ length ms
few_within [] ms apart all = omega arith
few_within (k ∷ ks) ms apart all =
    let less : length ks ≤ length (minus k ms) = few_within ks (minus k ms) apart.1 (all_still k ks ms apart.0 all.1) in
    let one : suc (length (minus k ms)) ≡ length ms = shorter k ms all.0 in
    omega (arith, less, one)

-- what is in a list is in a longer one
pub in_more : (k : ℕ) (ms ns : List ℕ) → is_in k ms ≡ true → is_in k (ms ++ ns) ≡ true
in_more k [] ns e = absurd cc
in_more k (m ∷ ms) ns e = at (k == m) e (in_more k ms ns)
  where
    at : (b : Bool) → b || is_in k ms ≡ true → (is_in k ms ≡ true → is_in k (ms ++ ns) ≡ true) → b || is_in k (ms ++ ns) ≡ true
    at true h more = refl
    at false h more = more h

pub in_last : (n : ℕ) (ms : List ℕ) → is_in n (ms ++ n ∷ []) ≡ true
in_last n [] = ap (λ (b : Bool). b || false) (eq-eqb n n refl)
in_last n (m ∷ ms) = at (n == m) (in_last n ms)
  where
    at : (b : Bool) → is_in n (ms ++ n ∷ []) ≡ true → b || is_in n (ms ++ n ∷ []) ≡ true
    at true h = refl
    at false h = h

-- a number of a list with one more behind it
not_in_more : (k n : ℕ) (ms : List ℕ) → is_in k ms ≡ false → (k == n) ≡ false → is_in k (ms ++ n ∷ []) ≡ false
not_in_more k n [] e off = ap (λ (b : Bool). b || false) off
not_in_more k n (m ∷ ms) e off =
    let both = neither (k == m) (is_in k ms) e in
    ap (λ (b : Bool). b || is_in k (ms ++ n ∷ [])) both.0 ∙ not_in_more k n ms both.1 off

-- one more that is above all
pub apart_more : (n : ℕ) (ks : List ℕ) → AreApart ks → AllByRecursion (λ (k : ℕ). k < n) ks → AreApart (ks ++ n ∷ [])
apart_more n [] apart below = (refl, tt)
apart_more n (k ∷ ks) apart below = (not_in_more k n ks apart.0 (other (k == n) refl), apart_more n ks apart.1 below.1)
  where
    other : (b : Bool) → (k == n) ≡ b → (k == n) ≡ false
    other false e = e
    other true e = let same : k ≡ n = eqb-true k n e in let lt = below.0 in absurd (omega (arith, same, lt))
