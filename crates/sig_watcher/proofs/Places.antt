-- Where watchers stand, and what an edit at a place does.
use Rattle.std.proofs.Common.{◌≡◌, ◌↔◌, ℕ, zero, suc, ◌+◌, ◌≤◌, ◌<◌, ◌==◌, ◌||◌, Bool, true, false, cond, List, [], ◌∷◌, ◌++◌, length, take, drop, map, refl, sym, ap, ◌∙◌, subst, arith, length-append, true≢false}
use Rattle.std.proofs.lemmas.Bool.{eqb-true, eq-eqb}
use Rattle.std.specs.Prelude.{slice_set, slice_index_or}
use Rattle.signal_model.specs.Signals.{changed, without}
use Rattle.effect_model.specs.Worlds.{Watcher}
use Rattle.sig_watcher.specs.Numbers.{changed_at, IsFirst, Rises}
use Rattle.effect_model.specs.Watchers.{signals_at}
use Rattle.sig_watcher.specs.Tables.{Table, is_alive, new_watcher}

-- the number of a watcher
abbrev number_of : Watcher → ℕ
number_of x = x.number

-- ---- numbers that rise

-- they rise from any smaller number too
rises_from : (low more high : ℕ) (xs : List Watcher) → low ≤ more → Rises more xs high → Rises low xs high
rises_from low more high [] l h = omega (arith, l, h)
rises_from low more high (x ∷ xs) l h = let e : more ≤ x.number = h.0 in (omega (arith, l, e), h.1)

-- one more is made
pub rises_more : (low high : ℕ) (xs : List Watcher) (tries : Bool) → Rises low xs high → Rises low (xs ++ new_watcher high tries ∷ []) (high + 1)
rises_more low high [] tries h = (h, omega arith)
rises_more low high (x ∷ xs) tries h = (h.0, rises_more (x.number + 1) high xs tries h.1)

-- none of a smaller number is changed
not_changed : (n low high : ℕ) (f : Watcher → Watcher) (xs : List Watcher) → n < low → Rises low xs high → changed number_of n f xs ≡ xs
not_changed n low high f [] l h = refl
not_changed n low high f (x ∷ xs) l h =
    let e : low ≤ x.number = h.0 in
    let below : n < x.number + 1 = omega (arith, l, e) in
    go (n == x.number) refl (not_changed n (x.number + 1) high f xs below h.1)
  where
    go : (b : Bool) → (n == x.number) ≡ b → changed number_of n f xs ≡ xs → cond b (f x) x ∷ changed number_of n f xs ≡ x ∷ xs
    go true e ih = let q : n ≡ x.number = eqb-true n x.number e in let m : low ≤ x.number = h.0 in absurd (omega (arith, q, m, l))
    go false e ih = ap (λ ys. x ∷ ys) ih

-- nor is it taken out
not_out : (n low high : ℕ) (xs : List Watcher) → n < low → Rises low xs high → without number_of n xs ≡ xs
not_out n low high [] l h = refl
not_out n low high (x ∷ xs) l h =
    let e : low ≤ x.number = h.0 in
    let below : n < x.number + 1 = omega (arith, l, e) in
    go (n == x.number) refl (not_out n (x.number + 1) high xs below h.1)
  where
    go : (b : Bool) → (n == x.number) ≡ b → without number_of n xs ≡ xs → cond b (without number_of n xs) (x ∷ without number_of n xs) ≡ x ∷ xs
    go true e ih = let q : n ≡ x.number = eqb-true n x.number e in let m : low ≤ x.number = h.0 in absurd (omega (arith, q, m, l))
    go false e ih = ap (λ ys. x ∷ ys) ih

-- ---- the place of a number

-- it is among the others
pub first_below : (xs : List Watcher) (n p : ℕ) → IsFirst xs n p → p < length xs
first_below [] n p h = absurd h
first_below (x ∷ xs) n zero h = omega arith
first_below (x ∷ xs) n (suc p) h = let l : p < length xs = first_below xs n p h.1 in omega (arith, l)

-- its watcher lives
pub first_alive : (xs : List Watcher) (n p : ℕ) → IsFirst xs n p → is_alive xs n ≡ true
first_alive [] n p h = absurd h
first_alive (x ∷ xs) n zero h = ap (λ b. b || is_alive xs n) (eq-eqb n x.number h)
first_alive (x ∷ xs) n (suc p) h = ap (λ b. b || is_alive xs n) h.0 ∙ first_alive xs n p h.1

-- so one that was found among those of a table lives
pub found_alive : (s t : Table) (xs : List Watcher) (n p : ℕ) → s ≡ t → xs ≡ s.watchers → IsFirst xs n p → is_alive t.watchers n ≡ true
found_alive s t xs n p view here at =
    ap (λ (u : Table). is_alive u.watchers n) (sym view) ∙ first_alive s.watchers n p (subst (λ (ys : List Watcher). IsFirst ys n p) here at)

-- and no call for it is refused for want of it
pub isnt_gone : {Refused : Type 0} (s t : Table) (xs : List Watcher) (n p : ℕ) → s ≡ t → xs ≡ s.watchers → IsFirst xs n p → (Refused → ⊥) →
    Refused ↔ (is_alive t.watchers n ≡ false)
isnt_gone s t xs n p view here at never = (λ q. absurd (never q), λ gone. absurd (true≢false (sym (found_alive s t xs n p view here at) ∙ gone)))

-- who doesn't live watches nothing
pub none_signals : (xs : List Watcher) (n : ℕ) → is_alive xs n ≡ false → signals_at xs n ≡ []
none_signals [] n h = refl
none_signals (x ∷ xs) n h = go (n == x.number) h (none_signals xs n)
  where
    go : (b : Bool) → (b || is_alive xs n) ≡ false → (is_alive xs n ≡ false → signals_at xs n ≡ []) → cond b x.signals (signals_at xs n) ≡ []
    go true q ih = cc
    go false q ih = ih q

-- the signals at that place are its signals
pub first_signals : (xs : List Watcher) (n p : ℕ) (x : Watcher) → IsFirst xs n p → x ≡ slice_index_or xs p x → x.signals ≡ signals_at xs n
first_signals [] n p x h is = absurd h
first_signals (y ∷ ys) n zero x h is = ap (λ (z : Watcher). z.signals) is ∙ sym (ap (λ b. cond b y.signals (signals_at ys n)) (eq-eqb n y.number h))
first_signals (y ∷ ys) n (suc p) x h is = first_signals ys n p x h.1 is ∙ sym (ap (λ b. cond b y.signals (signals_at ys n)) h.0)

-- where none before a place has the number, and the one at the place has it, that is the first
pub is_first : (xs : List Watcher) (n p : ℕ) (x : Watcher) → p < length xs → is_alive (take p xs) n ≡ false → x ≡ slice_index_or xs p x → n ≡ x.number → IsFirst xs n p
is_first [] n p x l none is e = absurd (omega (arith, l))
is_first (y ∷ ys) n zero x l none is e = e ∙ ap number_of is
is_first (y ∷ ys) n (suc p) x l none is e =
    let k : p < length ys = omega (arith, l) in
    let both : ((n == y.number) ≡ false) × (is_alive (take p ys) n ≡ false) = go (n == y.number) (is_alive (take p ys) n) none in
    (both.0, is_first ys n p x k both.1 is e)
  where
    go : (a b : Bool) → (a || b) ≡ false → (a ≡ false) × (b ≡ false)
    go true b q = cc
    go false b q = (refl, q)

-- none has the number so far, and the next one hasn't
pub none_more : (xs : List Watcher) (n p : ℕ) (x : Watcher) → p < length xs → is_alive (take p xs) n ≡ false → x ≡ slice_index_or xs p x → (n ≡ x.number → ⊥) → is_alive (take (p + 1) xs) n ≡ false
none_more [] n p x l none is e = absurd (omega (arith, l))
none_more (y ∷ ys) n zero x l none is e = go (n == y.number) refl
  where
    go : (b : Bool) → (n == y.number) ≡ b → (b || false) ≡ false
    go true q = absurd (e (eqb-true n y.number q ∙ sym (ap number_of is)))
    go false q = refl
none_more (y ∷ ys) n (suc p) x l none is e =
    let k : p < length ys = omega (arith, l) in
    let s : suc p + 1 ≡ suc (p + 1) = omega arith in
    rw s (go (n == y.number) none (λ q. none_more ys n p x k q is e))
  where
    go : (b : Bool) → (b || is_alive (take p ys) n) ≡ false → (is_alive (take p ys) n ≡ false → is_alive (take (p + 1) ys) n ≡ false) → (b || is_alive (take (p + 1) ys) n) ≡ false
    go true q ih = q
    go false q ih = ih q

-- ---- edits at a place

-- what is written at a place is what was there, changed
pub written : (xs : List Watcher) (p : ℕ) (x y : Watcher) (f : Watcher → Watcher) → p < length xs → x ≡ slice_index_or xs p x → y ≡ f x → slice_set xs p y ≡ changed_at f p xs
written [] p x y f l is made = absurd (omega (arith, l))
written (z ∷ zs) zero x y f l is made = ap (λ k. k ∷ zs) (made ∙ ap f is)
written (z ∷ zs) (suc p) x y f l is made = let k : p < length zs = omega (arith, l) in ap (λ ys. z ∷ ys) (written zs p x y f k is made)

-- a change at the place of a number is that of its watcher
pub changed_first : (low high n p : ℕ) (f : Watcher → Watcher) (xs : List Watcher) → IsFirst xs n p → Rises low xs high → changed_at f p xs ≡ changed number_of n f xs
changed_first low high n p f [] at h = absurd at
changed_first low high n zero f (x ∷ xs) at h =
    let l : n < x.number + 1 = omega (arith, at) in
    ap (λ b. cond b (f x) x ∷ xs) (sym (eq-eqb n x.number at)) ∙ ap (λ ys. cond (n == x.number) (f x) x ∷ ys) (sym (not_changed n (x.number + 1) high f xs l h.1))
changed_first low high n (suc p) f (x ∷ xs) at h =
    ap (λ b. cond b (f x) x ∷ changed_at f p xs) (sym at.0) ∙ ap (λ ys. cond (n == x.number) (f x) x ∷ ys) (changed_first (x.number + 1) high n p f xs at.1 h.1)

-- what is left without the place of a number is without its watcher
pub removed_first : (low high n p : ℕ) (xs : List Watcher) → IsFirst xs n p → Rises low xs high → take p xs ++ drop (p + 1) xs ≡ without number_of n xs
removed_first low high n p [] at h = absurd at
removed_first low high n zero (x ∷ xs) at h =
    let l : n < x.number + 1 = omega (arith, at) in
    sym (ap (λ b. cond b (without number_of n xs) (x ∷ without number_of n xs)) (eq-eqb n x.number at) ∙ not_out n (x.number + 1) high xs l h.1)
removed_first low high n (suc p) (x ∷ xs) at h =
    let s : suc p + 1 ≡ suc (p + 1) = omega arith in
    rw s (ap (λ ys. x ∷ ys) (removed_first (x.number + 1) high n p xs at.1 h.1) ∙ sym (ap (λ b. cond b (without number_of n xs) (x ∷ without number_of n xs)) at.0))

-- ---- edits keep the numbers

-- a change at a place that keeps the number
pub rises_changed : (low high p : ℕ) (f : Watcher → Watcher) (xs : List Watcher) → ((x : Watcher) → (f x).number ≡ x.number) → Rises low xs high → Rises low (changed_at f p xs) high
rises_changed low high p f [] same h = h
rises_changed low high zero f (x ∷ xs) same h = subst (λ n. (low ≤ n) × Rises (n + 1) xs high) (sym (same x)) h
rises_changed low high (suc p) f (x ∷ xs) same h = (h.0, rises_changed (x.number + 1) high p f xs same h.1)

pub length_changed : (p : ℕ) (f : Watcher → Watcher) (xs : List Watcher) → length (changed_at f p xs) ≡ length xs
length_changed p f [] = refl
length_changed zero f (x ∷ xs) = refl
length_changed (suc p) f (x ∷ xs) = ap suc (length_changed p f xs)

-- a change of all that keeps the numbers
pub rises_map : (low high : ℕ) (f : Watcher → Watcher) (xs : List Watcher) → ((x : Watcher) → (f x).number ≡ x.number) → Rises low xs high → Rises low (map f xs) high
rises_map low high f [] same h = h
rises_map low high f (x ∷ xs) same h = subst (λ n. (low ≤ n) × Rises (n + 1) (map f xs) high) (sym (same x)) (h.0, rises_map (x.number + 1) high f xs same h.1)

-- without the one at a place
pub rises_removed : (low high p : ℕ) (xs : List Watcher) → Rises low xs high → Rises low (take p xs ++ drop (p + 1) xs) high
rises_removed low high zero [] h = h
rises_removed low high (suc p) [] h = let s : suc p + 1 ≡ suc (p + 1) = omega arith in rw s h
rises_removed low high zero (x ∷ xs) h = let l : low ≤ x.number = h.0 in rises_from low (x.number + 1) high xs (omega (arith, l)) h.1
rises_removed low high (suc p) (x ∷ xs) h =
    let s : suc p + 1 ≡ suc (p + 1) = omega arith in
    rw s (h.0, rises_removed (x.number + 1) high p xs h.1)

-- an edit of each, one place after the other
pub map_step : (f : Watcher → Watcher) (all xs : List Watcher) (p : ℕ) → p < length all → xs ≡ map f (take p all) ++ drop p all → changed_at f p xs ≡ map f (take (p + 1) all) ++ drop (p + 1) all
map_step f all xs p l is = ap (changed_at f p) is ∙ go all p l
  where
    go : (ys : List Watcher) (k : ℕ) → k < length ys → changed_at f k (map f (take k ys) ++ drop k ys) ≡ map f (take (k + 1) ys) ++ drop (k + 1) ys
    go [] k h = absurd (omega (arith, h))
    go (y ∷ ys) zero h = refl
    go (y ∷ ys) (suc k) h =
        let q : k < length ys = omega (arith, h) in
        let s : suc k + 1 ≡ suc (k + 1) = omega arith in
        rw s (ap (λ zs. f y ∷ zs) (go ys k q))

-- as many as before
pub map_length : (f : Watcher → Watcher) (all xs : List Watcher) (p : ℕ) → xs ≡ map f (take p all) ++ drop p all → length xs ≡ length all
map_length f all xs p is = ap length is ∙ go all p
  where
    go : (ys : List Watcher) (k : ℕ) → length (map f (take k ys) ++ drop k ys) ≡ length ys
    go [] zero = refl
    go [] (suc k) = refl
    go (y ∷ ys) zero = refl
    go (y ∷ ys) (suc k) = ap suc (go ys k)

-- and at the end each is changed
pub map_end : (f : Watcher → Watcher) (all xs : List Watcher) (p : ℕ) → length all ≤ p → xs ≡ map f (take p all) ++ drop p all → xs ≡ map f all
map_end f all xs p l is = is ∙ go all p l
  where
    go : (ys : List Watcher) (k : ℕ) → length ys ≤ k → map f (take k ys) ++ drop k ys ≡ map f ys
    go [] zero h = refl
    go [] (suc k) h = refl
    go (y ∷ ys) zero h = absurd (omega (arith, h))
    go (y ∷ ys) (suc k) h = let q : length ys ≤ k = omega (arith, h) in ap (λ zs. f y ∷ zs) (go ys k q)

-- with this length there is room for one more
pub room_more : (xs : List Watcher) (x : Watcher) (most : ℕ) → length xs ≤ most → (length xs ≡ most → ⊥) → length (xs ++ x ∷ []) ≤ most
room_more xs x most l ne = let e : length (xs ++ x ∷ []) ≡ length xs + 1 = length-append xs (x ∷ []) in omega (arith, l, ne, e)

-- no more than before are left without one place
pub removed_length : (p : ℕ) (xs : List Watcher) → length (take p xs ++ drop (p + 1) xs) ≤ length xs
removed_length zero [] = omega arith
removed_length (suc p) [] = let s : suc p + 1 ≡ suc (p + 1) = omega arith in rw s (omega arith)
removed_length zero (x ∷ xs) = omega arith
removed_length (suc p) (x ∷ xs) =
    let s : suc p + 1 ≡ suc (p + 1) = omega arith in
    let h : length (take p xs ++ drop (p + 1) xs) ≤ length xs = removed_length p xs in
    rw s (omega (arith, h))
