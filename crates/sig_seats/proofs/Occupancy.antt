-- Seats that are taken and left.
use Rattle.std.proofs.Common.{◌≡◌, ℕ, zero, suc, ◌-◌, length-append, ◌<◌, ◌≤◌, ◌==◌, ◌||◌, Bool, true, false, cond, List, [], ◌∷◌, ◌++◌, length, Option, Some, None, refl, sym, ap, ◌∙◌, subst, arith, ◌⊎◌, inl, inr, true≢false}
use Rattle.std.specs.Prelude.{slice_set, slice_index_or}
use Rattle.std.proofs.lemmas.Bool.{eqb-true, eq-eqb}
use Rattle.signal_model.specs.Signals.{is_in}
use Rattle.signal_model.specs.Laws.{AreDistinct}
use Rattle.sig_seats.proofs.Flagged.{in_more}
use Rattle.sig_base.specs.declared.limits.TheConstants.{MOST_NODES}
use Rattle.sig_seats.specs.Seats.{all_seats, empty_seats, seating, AreSeats, holder}
use Rattle.signal_model.proofs.Shared.{either, or_left, or_right, tested}

-- a seat that is read
pub holder_read : (hs : List (Option ℕ)) (s : ℕ) (h : Option ℕ) → s < length hs → h ≡ slice_index_or hs s h → h ≡ holder hs s
holder_read hs s h l e = e ∙ go hs s l
  where
    go : (ys : List (Option ℕ)) (k : ℕ) → k < length ys → slice_index_or ys k h ≡ holder ys k
    go [] k q = absurd (omega arith)
    go (y ∷ ys) zero q = refl
    go (y ∷ ys) (suc k) q = let z : k < length ys = omega arith in go ys k z

pub holder_past : (hs : List (Option ℕ)) (s : ℕ) → length hs ≤ s → None ≡ holder hs s
holder_past [] s h = refl
holder_past (y ∷ ys) zero h = absurd (omega arith)
holder_past (y ∷ ys) (suc s) h = let l : length ys ≤ s = omega arith in holder_past ys s l

-- only seats that are there have holders
pub held_inside : (hs : List (Option ℕ)) (s n : ℕ) → holder hs s ≡ Some n → s < length hs
held_inside [] s n h = cc
held_inside (y ∷ ys) zero n h = omega arith
held_inside (y ∷ ys) (suc s) n h = omega (arith, held_inside ys s n h)

pub set_size : (hs : List (Option ℕ)) (s : ℕ) (h : Option ℕ) → length (slice_set hs s h) ≡ length hs
set_size [] s h = refl
set_size (y ∷ ys) zero h = refl
set_size (y ∷ ys) (suc s) h = ap suc (set_size ys s h)

pub holder_set : (hs : List (Option ℕ)) (s k : ℕ) (h : Option ℕ) → s < length hs → holder (slice_set hs s h) k ≡ (cond (s == k) h (holder hs k))
holder_set hs s k h l = go (tested (s == k))
  where
    here : (ys : List (Option ℕ)) (i : ℕ) → i < length ys → holder (slice_set ys i h) i ≡ h
    here [] i q = absurd (omega arith)
    here (y ∷ ys) zero q = refl
    here (y ∷ ys) (suc i) q = let z : i < length ys = omega arith in here ys i z

    other : (ys : List (Option ℕ)) (i j : ℕ) → (i ≡ j → ⊥) → holder (slice_set ys i h) j ≡ holder ys j
    other [] i j ne = refl
    other (y ∷ ys) zero zero ne = absurd (ne refl)
    other (y ∷ ys) zero (suc j) ne = refl
    other (y ∷ ys) (suc i) zero ne = refl
    other (y ∷ ys) (suc i) (suc j) ne = other ys i j (λ e. ne (ap suc e))

    go : ((s == k) ≡ true) ⊎ ((s == k) ≡ false) → holder (slice_set hs s h) k ≡ cond (s == k) h (holder hs k)
    go (inl e) = subst (λ z. holder (slice_set hs s h) z ≡ h) (eqb-true s k e) (here hs s l) ∙ ap (λ c. cond c h (holder hs k)) (sym e)
    go (inr e) = other hs s k (λ q. true≢false (sym (eq-eqb s k q) ∙ e)) ∙ ap (λ c. cond c h (holder hs k)) (sym e)

-- ---- lists without repetition

-- a list with one more at its end
pub distinct_more : (xs : List ℕ) (y : ℕ) → AreDistinct xs → is_in y xs ≡ false → AreDistinct (xs ++ y ∷ [])
distinct_more [] y d h = (refl, tt)
distinct_more (x ∷ xs) y d h = (in_more x xs y ∙ go (is_in x xs) (x == y) d.0 apart, distinct_more xs y d.1 (snd (y == x) (is_in y xs) h))
  where
    snd : (a b : Bool) → (a || b) ≡ false → b ≡ false
    snd true b q = absurd (true≢false q)
    snd false b q = q

    fst : (a b : Bool) → (a || b) ≡ false → a ≡ false
    fst true b q = absurd (true≢false q)
    fst false b q = refl

    apart : (x == y) ≡ false
    apart = turn (x == y) refl
      where
        turn : (b : Bool) → (x == y) ≡ b → b ≡ false
        turn true e = absurd (true≢false (sym (eq-eqb y x (sym (eqb-true x y e))) ∙ fst (y == x) (is_in y xs) h))
        turn false e = refl

    go : (a b : Bool) → a ≡ false → b ≡ false → (a || b) ≡ false
    go true b p q = p
    go false b p q = q

-- and without its last
pub distinct_less : (xs : List ℕ) (y : ℕ) → AreDistinct (xs ++ y ∷ []) → AreDistinct xs × (is_in y xs ≡ false)
distinct_less [] y d = (tt, refl)
distinct_less (x ∷ xs) y d =
    let rest : AreDistinct xs × (is_in y xs ≡ false) = distinct_less xs y d.1 in
    let off : (is_in x xs || (x == y)) ≡ false = sym (in_more x xs y) ∙ d.0 in
    ((fst (is_in x xs) (x == y) off, rest.0), go (y == x) refl (snd (is_in x xs) (x == y) off) rest.1)
  where
    snd : (a b : Bool) → (a || b) ≡ false → b ≡ false
    snd true b q = absurd (true≢false q)
    snd false b q = q

    fst : (a b : Bool) → (a || b) ≡ false → a ≡ false
    fst true b q = absurd (true≢false q)
    fst false b q = refl

    go : (b : Bool) → (y == x) ≡ b → (x == y) ≡ false → is_in y xs ≡ false → (b || is_in y xs) ≡ false
    go true e q r = absurd (true≢false (sym (eq-eqb x y (sym (eqb-true y x e))) ∙ q))
    go false e q r = r

-- ---- what holds of seats

-- seats that nobody has
pub empty_size : (n : ℕ) → length (empty_seats n) ≡ n
unfolding empty_seats
empty_size zero = refl
empty_size (suc n) = ap suc (empty_size n)

pub empty_holder : (n s : ℕ) → holder (empty_seats n) s ≡ None
unfolding empty_seats
empty_holder zero s = refl
empty_holder (suc n) zero = refl
empty_holder (suc n) (suc s) = empty_holder n s

-- behind others
behind_holder : (hs : List (Option ℕ)) (n s : ℕ) → holder (hs ++ empty_seats n) s ≡ holder hs s
behind_holder [] n s = empty_holder n s
behind_holder (h ∷ hs) n zero = refl
behind_holder (h ∷ hs) n (suc s) = behind_holder hs n s

behind_set : (hs ks : List (Option ℕ)) (s : ℕ) (h : Option ℕ) → s < length hs → slice_set (hs ++ ks) s h ≡ slice_set hs s h ++ ks
behind_set [] ks s h l = absurd (omega arith)
behind_set (x ∷ hs) ks zero h l = refl
behind_set (x ∷ hs) ks (suc s) h l = let k : s < length hs = omega arith in ap (λ ys. x ∷ ys) (behind_set hs ks s h k)

behind_first : (hs : List (Option ℕ)) (n : ℕ) (h : Option ℕ) → slice_set (hs ++ empty_seats (suc n)) (length hs) h ≡ (hs ++ h ∷ []) ++ empty_seats n
unfolding empty_seats
behind_first [] n h = refl
behind_first (x ∷ hs) n h = ap (λ ys. x ∷ ys) (behind_first hs n h)

-- all seats are as many as there may be
pub all_size : (hs : List (Option ℕ)) → length hs ≤ MOST_NODES → length (all_seats hs) ≡ MOST_NODES
unfolding all_seats
all_size hs few = omega (arith, few, length-append hs (empty_seats (MOST_NODES - length hs)), empty_size (MOST_NODES - length hs))

-- who has one, is who has it of those that were taken
pub all_holder : (hs : List (Option ℕ)) (s : ℕ) → holder (all_seats hs) s ≡ holder hs s
unfolding all_seats
all_holder hs s = behind_holder hs (MOST_NODES - length hs) s

-- one that was taken is taken or left again
pub all_set : (hs : List (Option ℕ)) (s : ℕ) (h : Option ℕ) → s < length hs → slice_set (all_seats hs) s h ≡ all_seats (slice_set hs s h)
unfolding all_seats
all_set hs s h l = behind_set hs (empty_seats (MOST_NODES - length hs)) s h l ∙ ap (λ k. slice_set hs s h ++ empty_seats (MOST_NODES - k)) (sym (set_size hs s h))

-- one more is taken
pub all_first : (hs : List (Option ℕ)) (h : Option ℕ) → length hs < MOST_NODES → slice_set (all_seats hs) (length hs) h ≡ all_seats (hs ++ h ∷ [])
unfolding all_seats
all_first hs h few =
    let left : MOST_NODES - length hs ≡ suc (MOST_NODES - length (hs ++ h ∷ [])) = omega (arith, few, length-append hs (h ∷ [])) in
    ap (λ k. slice_set (hs ++ empty_seats k) (length hs) h) left ∙ behind_first hs (MOST_NODES - length (hs ++ h ∷ [])) h

-- the same seats and as many free ones are the same
pub alike_seats : (hs ks : List (Option ℕ)) (f g : ℕ) → hs ≡ ks → f ≡ g → seating hs f ≡ seating ks g
alike_seats hs ks f g e d = rw (e, d) refl

-- the last free seat is taken
pub taken_seats : (hs : List (Option ℕ)) (free : List ℕ) (s n most cap cap' : ℕ) → cap ≤ cap' → AreSeats hs (free ++ s ∷ []) most cap → AreSeats (slice_set hs s (Some n)) free most cap'
taken_seats hs free s n most cap cap' more h =
    let d : AreDistinct free × (is_in s free ≡ false) = distinct_less free s h.once in
    record {
      few = subst (λ z. z ≤ MOST_NODES) (sym (set_size hs s (Some n))) h.few;
      inside = λ k q. subst (λ z. k < z) (sym (set_size hs s (Some n))) (h.inside k (still k q));
      nobody = λ k q. holder_set hs s k (Some n) (h.inside s here) ∙ go k (s == k) refl d.1 q;
      once = d.0;
      places = h.places;
      room = let r = h.room in omega (arith, r, more);
    }
  where
    still : (k : ℕ) → is_in k free ≡ true → is_in k (free ++ s ∷ []) ≡ true
    still k q = in_more k free s ∙ or_left (is_in k free) (k == s) q

    here : is_in s (free ++ s ∷ []) ≡ true
    here = in_more s free s ∙ or_right (is_in s free) (s == s) (eq-eqb s s refl)

    go : (k : ℕ) (b : Bool) → (s == k) ≡ b → is_in s free ≡ false → is_in k free ≡ true → cond b (Some n) (holder hs k) ≡ None
    go k true e off q = absurd (true≢false (sym q ∙ ap (λ z. is_in z free) (sym (eqb-true s k e)) ∙ off))
    go k false e off q = h.nobody k (still k q)

-- the last free seat is nobody's, and is there
pub last_free : (hs : List (Option ℕ)) (free : List ℕ) (s most cap : ℕ) → AreSeats hs (free ++ s ∷ []) most cap → (holder hs s ≡ None) × (s < length hs)
last_free hs free s most cap h = (h.nobody s here, h.inside s here)
  where
    here : is_in s (free ++ s ∷ []) ≡ true
    here = in_more s free s ∙ or_right (is_in s free) (s == s) (eq-eqb s s refl)

-- a seat is taken for the first time
pub first_seat : (hs : List (Option ℕ)) (n most most' cap : ℕ) → length hs < MOST_NODES → most ≤ most' → AreSeats hs [] most cap → AreSeats (hs ++ Some n ∷ []) [] most' cap
first_seat hs n most most' cap few more h = record {
  few = omega (arith, few, length-append hs (Some n ∷ []));
  inside = λ s q. absurd (true≢false (sym q));
  nobody = λ s q. absurd (true≢false (sym q));
  once = h.once;
  places = let r = h.places in omega (arith, r, more);
  room = h.room;
}

-- a seat is left
pub left_seats : (hs : List (Option ℕ)) (free : List ℕ) (s n most cap cap' : ℕ) → cap ≤ cap' → holder hs s ≡ Some n → AreSeats hs free most cap
    → AreSeats (slice_set hs s None) (free ++ s ∷ []) most cap'
left_seats hs free s n most cap cap' more held h = record {
  few = subst (λ z. z ≤ MOST_NODES) (sym (set_size hs s None)) h.few;
  inside = λ k q. subst (λ z. k < z) (sym (set_size hs s None)) (elim (either (is_in k free) (k == s) (sym (in_more k free s) ∙ q)) [
    | inl a ↦ h.inside k a
    | inr e ↦ subst (λ z. z < length hs) (sym (eqb-true k s e)) (held_inside hs s n held)
  ]);
  nobody = λ k q. holder_set hs s k None (held_inside hs s n held) ∙ go k (s == k) refl (sym (in_more k free s) ∙ q);
  once = distinct_more free s h.once (off (is_in s free) refl);
  places = h.places;
  room = let r = h.room in omega (arith, r, more);
}
  where
    off : (b : Bool) → is_in s free ≡ b → b ≡ false
    off true e = cc (sym held ∙ h.nobody s e)
    off false e = refl

    go : (k : ℕ) (b : Bool) → (s == k) ≡ b → (is_in k free || (k == s)) ≡ true → cond b None (holder hs k) ≡ None
    go k true e q = refl
    go k false e q = elim (either (is_in k free) (k == s) q) [
      | inl a ↦ h.nobody k a
      | inr f ↦ absurd (true≢false (sym (eq-eqb s k (sym (eqb-true k s f))) ∙ e))
    ]
