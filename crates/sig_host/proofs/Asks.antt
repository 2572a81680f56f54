-- Numbers of asks: one place is asked more, or loses its formula, and the others stay.
use Rattle.std.proofs.Common.{◌≡◌, ◌≤◌, ◌<◌, ◌+◌, ◌==◌, ◌&&◌, not, ℕ, zero, suc, arith, Bool, true, false, if◌then◌else◌, List, [], ◌∷◌, map, length, IsTrue, slice_set, refl, ap, sym, ◌∙◌, add-zero, add_assoc}
use Rattle.std.proofs.Math.Dec.{eqb-suc-suc, eqb-suc-zero, eqb-zero-suc}
use Rattle.sig_host.specs.Hosts.{HostPlace, asked_more_at, count_at, dropped_at, is_there, most_asked, place_at, unasked_place}

-- at first each formula is there, and wasn't asked
pub is_there-new : {A : Type 0} (xs : List A) (p : ℕ) → p < length xs → IsTrue (is_there (map (λ _. unasked_place) xs) p)
is_there-new [] p h = absurd (omega (arith, h))
is_there-new (x ∷ xs) zero h = refl
is_there-new (x ∷ xs) (suc p) h = is_there-new xs p (omega (arith, h))

pub count_at-new : {A : Type 0} (xs : List A) (p : ℕ) → count_at (map (λ _. unasked_place) xs) p ≡ 0
count_at-new [] p = refl
count_at-new (x ∷ xs) zero = refl
count_at-new (x ∷ xs) (suc p) = count_at-new xs p

-- the places, where one of those that have a formula is changed
place_at-set : (xs : List HostPlace) (p q : ℕ) (o : HostPlace) → IsTrue (is_there xs p) → place_at (slice_set xs p o) q ≡ (if q == p then o else place_at xs q)
place_at-set [] p q o h = cc
place_at-set (x ∷ xs) zero zero o h = refl
place_at-set (x ∷ xs) zero (suc q) o h = ap (λ b. if b then o else place_at xs q) (sym (eqb-suc-zero q))
place_at-set (x ∷ xs) (suc p) zero o h = ap (λ b. if b then o else x) (sym (eqb-zero-suc p))
place_at-set (x ∷ xs) (suc p) (suc q) o h = place_at-set xs p q o h ∙ ap (λ b. if b then o else place_at xs q) (sym (eqb-suc-suc q p))

-- one is asked more
pub place_at-more : (xs : List HostPlace) (p n q : ℕ) → IsTrue (is_there xs p) →
    place_at (asked_more_at xs p n) q ≡ (if q == p then record { there = is_there xs p; asks = count_at xs p + n } else place_at xs q)
place_at-more xs p n q h = place_at-set xs p q _ h

-- one loses its formula
pub place_at-dropped : (xs : List HostPlace) (p q : ℕ) → IsTrue (is_there xs p) →
    place_at (dropped_at xs p) q ≡ (if q == p then record { there = false; asks = count_at xs p } else place_at xs q)
place_at-dropped xs p q h = place_at-set xs p q _ h

-- the formulas that are there stay there, and no other comes
pub is_there-more : (xs : List HostPlace) (p n q : ℕ) → IsTrue (is_there xs p) → is_there (asked_more_at xs p n) q ≡ is_there xs q
is_there-more [] p n q h = refl
is_there-more (x ∷ xs) zero n zero h = refl
is_there-more (x ∷ xs) zero n (suc q) h = refl
is_there-more (x ∷ xs) (suc p) n zero h = refl
is_there-more (x ∷ xs) (suc p) n (suc q) h = is_there-more xs p n q h

there_none : (b there : Bool) (n m : ℕ) → (λ (o : HostPlace). o.there) (if b then record { there = false; asks = n } else record { there = there; asks = m }) ≡ (there && not b)
there_none true true n m = refl
there_none true false n m = refl
there_none false true n m = refl
there_none false false n m = refl

-- one is gone, and the others stay there
pub is_there-dropped : (xs : List HostPlace) (p q : ℕ) → IsTrue (is_there xs p) → is_there (dropped_at xs p) q ≡ (is_there xs q && not (q == p))
is_there-dropped xs p q h = ap (λ (o : HostPlace). o.there) (place_at-dropped xs p q h) ∙ there_none (q == p) (is_there xs q) (count_at xs p) (count_at xs q)

-- a drop keeps the counts
pub count_at-dropped : (xs : List HostPlace) (p q : ℕ) → count_at (dropped_at xs p) q ≡ count_at xs q
count_at-dropped [] p q = refl
count_at-dropped (x ∷ xs) zero zero = refl
count_at-dropped (x ∷ xs) zero (suc q) = refl
count_at-dropped (x ∷ xs) (suc p) zero = refl
count_at-dropped (x ∷ xs) (suc p) (suc q) = count_at-dropped xs p q

-- asked no more
pub more_none : (xs : List HostPlace) (p : ℕ) → asked_more_at xs p 0 ≡ xs
more_none [] p = refl
more_none (x ∷ xs) zero = ap (λ m. record { there = x.there; asks = m } ∷ xs) (add-zero x.asks)
more_none (x ∷ xs) (suc p) = ap (λ ys. x ∷ ys) (more_none xs p)

-- asked more, and more again
pub more_more : (xs : List HostPlace) (p n m : ℕ) → asked_more_at (asked_more_at xs p n) p m ≡ asked_more_at xs p (n + m)
more_more [] p n m = refl
more_more (x ∷ xs) zero n m = ap (λ k. record { there = x.there; asks = k } ∷ xs) (add_assoc x.asks n m)
more_more (x ∷ xs) (suc p) n m = ap (λ ys. x ∷ ys) (more_more xs p n m)

-- the number of asks of the place that is asked more
pub count_at-more : (xs : List HostPlace) (p n : ℕ) → IsTrue (is_there xs p) → count_at (asked_more_at xs p n) p ≡ count_at xs p + n
count_at-more [] p n h = cc
count_at-more (x ∷ xs) zero n h = refl
count_at-more (x ∷ xs) (suc p) n h = count_at-more xs p n h

-- and of each place
pub count_at-asked : (xs : List HostPlace) (p n q : ℕ) → IsTrue (is_there xs p) → count_at (asked_more_at xs p n) q ≡ count_at xs q + (if q == p then n else 0)
count_at-asked [] p n q h = cc
count_at-asked (x ∷ xs) zero n zero h = refl
count_at-asked (x ∷ xs) zero n (suc q) h = sym (ap (λ b. count_at xs q + (if b then n else 0)) (eqb-suc-zero q) ∙ add-zero (count_at xs q))
count_at-asked (x ∷ xs) (suc p) n zero h = sym (ap (λ b. x.asks + (if b then n else 0)) (eqb-zero-suc p) ∙ add-zero x.asks)
count_at-asked (x ∷ xs) (suc p) n (suc q) h = count_at-asked xs p n q h ∙ ap (λ b. count_at xs q + (if b then n else 0)) (sym (eqb-suc-suc q p))

-- no place was asked more often than the most
pub count_at-most : (xs : List HostPlace) (p : ℕ) → count_at xs p ≤ most_asked xs
count_at-most [] p = omega arith
count_at-most (x ∷ xs) zero = omega arith
count_at-most (x ∷ xs) (suc p) = omega (arith, count_at-most xs p)

-- what no place was asked more often than, the most isn't above
pub most_asked-least : (xs : List HostPlace) (n : ℕ) → ((p : ℕ) → count_at xs p ≤ n) → most_asked xs ≤ n
most_asked-least [] n h = omega arith
most_asked-least (x ∷ xs) n h = let a : x.asks ≤ n = h 0 in omega (arith, a, most_asked-least xs n (λ p. h (suc p)))

pub most_asked-new : {A : Type 0} (xs : List A) → most_asked (map (λ _. unasked_place) xs) ≡ 0
most_asked-new [] = refl
most_asked-new (x ∷ xs) = omega (arith, most_asked-new xs)

pub most_asked-more : (xs : List HostPlace) (p n : ℕ) → most_asked (asked_more_at xs p n) ≤ most_asked xs + n
most_asked-more [] p n = omega arith
most_asked-more (x ∷ xs) zero n = omega arith
most_asked-more (x ∷ xs) (suc p) n = omega (arith, most_asked-more xs p n)

pub most_asked-dropped : (xs : List HostPlace) (p : ℕ) → most_asked (dropped_at xs p) ≡ most_asked xs
most_asked-dropped [] p = refl
most_asked-dropped (x ∷ xs) zero = refl
most_asked-dropped (x ∷ xs) (suc p) = omega (arith, most_asked-dropped xs p)

-- places stay as many
pub length-asked : (xs : List HostPlace) (p n : ℕ) → length (asked_more_at xs p n) ≡ length xs
length-asked [] p n = refl
length-asked (x ∷ xs) zero n = refl
length-asked (x ∷ xs) (suc p) n = ap suc (length-asked xs p n)
