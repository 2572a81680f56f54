-- What is noted of a signal, at the place that it shares.
use Rattle.std.proofs.Common.{◌≡◌, ◌≢◌, ℕ, zero, suc, ◌<◌, ◌≤◌, ◌==◌, Bool, true, false, List, [], ◌∷◌, ◌++◌, length, refl, sym, ap, ◌∙◌, arith, ◌⊎◌, inl, inr, if◌then◌else◌}
use Rattle.std.specs.Prelude.{◌/◌, ◌%◌, ◌^◌, slice_set, slice_index_or}
use Rattle.std.proofs.lemmas.Bool.{eq-eqb, eqb-false, eqb-true}
use Rattle.std.proofs.lemmas.Nat.{div-add-mod'}
use Rattle.sig_seats.specs.declared.finds.Found.{Found}
use Rattle.sig_seats.specs.Found.{Noted, count_for, count_of, found_at, held_at, place_of}

-- ---- one note

-- a count is that of its two words
pub count_words : (w : ℕ) → count_of (w / 2 ^ 64) (w % 2 ^ 64) ≡ w
unfolding count_of
count_words w = div-add-mod' w (2 ^ 64)

-- one of the signal itself tells its count
pub count_own : (f : Found) (high n : ℕ) → (f.id == n) ≡ true → count_for high f n ≡ count_of high f.low
count_own f high n e = ap (λ (b : Bool). if b then count_of high f.low else 0) e

-- one of another tells none
pub count_other : (f : Found) (high n : ℕ) → (f.id == n) ≡ false → count_for high f n ≡ 0
count_other f high n e = ap (λ (b : Bool). if b then count_of high f.low else 0) e

-- ---- the notes at all places

-- what is read there
pub held_read : (fs : List Found) (s high n : ℕ) (f : Found) → s < length fs → f ≡ slice_index_or fs s f → held_at fs s high n ≡ count_for high f n
held_read [] s high n f l is = absurd (omega arith)
held_read (g ∷ fs) zero high n f l is = ap (λ (x : Found). count_for high x n) (sym is)
held_read (g ∷ fs) (suc s) high n f l is = let k : s < length fs = omega arith in held_read fs s high n f k is

-- past the end nothing is held
pub held_past : (fs : List Found) (s high n : ℕ) → length fs ≤ s → held_at fs s high n ≡ 0
held_past [] s high n l = refl
held_past (g ∷ fs) zero high n l = absurd (omega arith)
held_past (g ∷ fs) (suc s) high n l = let k : length fs ≤ s = omega arith in held_past fs s high n k

-- what is written there is held there
pub held_here : (fs : List Found) (s high n : ℕ) (f : Found) → s < length fs → held_at (slice_set fs s f) s high n ≡ count_for high f n
held_here [] s high n f l = absurd (omega arith)
held_here (g ∷ fs) zero high n f l = refl
held_here (g ∷ fs) (suc s) high n f l = let k : s < length fs = omega arith in held_here fs s high n f k

-- what is written there changes nothing elsewhere
pub held_written : (fs : List Found) (d : ℕ) (f : Found) (s high n : ℕ) → s ≢ d → held_at (slice_set fs d f) s high n ≡ held_at fs s high n
held_written [] d f s high n apart = refl
held_written (x ∷ fs) zero f zero high n apart = absurd (apart refl)
held_written (x ∷ fs) zero f (suc s) high n apart = refl
held_written (x ∷ fs) (suc d) f zero high n apart = refl
held_written (x ∷ fs) (suc d) f (suc s) high n apart = held_written fs d f s high n (λ e. apart (ap suc e))

-- one place more is like one past the end for whom its note isn't of
held_more : (fs : List Found) (f : Found) (s high n : ℕ) → (s ≡ length fs → (f.id == n) ≡ false) → held_at (fs ++ f ∷ []) s high n ≡ held_at fs s high n
held_more [] f zero high n e = count_other f high n (e refl)
held_more [] f (suc s) high n e = refl
held_more (g ∷ fs) f zero high n e = refl
held_more (g ∷ fs) f (suc s) high n e = held_more fs f s high n (λ q. e (ap suc q))

-- so it is where its note is of a signal of another place
pub held_longer : (fs : List Found) (f : Found) (n high : ℕ) → place_of f.id ≢ length fs →
    held_at (fs ++ f ∷ []) (place_of n) high n ≡ held_at fs (place_of n) high n
held_longer fs f n high apart = held_more fs f (place_of n) high n (λ at. go (f.id == n) refl at)
  where
    go : (b : Bool) → (f.id == n) ≡ b → place_of n ≡ length fs → (f.id == n) ≡ false
    go true e at = absurd (apart (ap place_of (eqb-true f.id n e) ∙ at))
    go false e at = e

-- the signal 1 has another place than the first, and the signal 0 another than all others
pub first_apart : (n p : ℕ) → n ≡ 1 → p ≡ 0 → place_of n ≢ p
unfolding place_of
first_apart n p one first = λ e. let at : 1 ≡ p = sym (ap place_of one) ∙ e in omega (arith, at, first)

pub later_apart : (n p : ℕ) → n ≡ 0 → p ≢ 0 → place_of n ≢ p
unfolding place_of
later_apart n p none later = λ e. later (sym e ∙ ap place_of none)

-- ---- by the signal

-- of no notes nothing is found
pub none_found : (t : Noted) (n : ℕ) → t.at ≡ [] → found_at t n ≡ 0
unfolding found_at
none_found t n none = ap (λ (fs : List Found). held_at fs (place_of n) (slice_index_or t.highs (place_of n) 0) n) none

-- what is found of it is what its place tells
found_read : (t : Noted) (s n : ℕ) (f : Found) → s ≡ place_of n → s < length t.at → f ≡ slice_index_or t.at s f →
    found_at t n ≡ count_for (slice_index_or t.highs s 0) f n
unfolding found_at
found_read t s n f at l is = ap (λ p. held_at t.at p (slice_index_or t.highs p 0) n) (sym at) ∙ held_read t.at s (slice_index_or t.highs s 0) n f l is

-- the count of its words where the note there is its own
pub found_told : (t u : Noted) (s n h : ℕ) (f : Found) → t ≡ u → s ≡ place_of n → s < length t.at → f ≡ slice_index_or t.at s f →
    (f.id == n) ≡ true → h ≡ slice_index_or u.highs s 0 → found_at u n ≡ count_of h f.low
found_told t u s n h f same at l is own high =
    sym (ap (λ (v : Noted). found_at v n) same) ∙ found_read t s n f at l is ∙ count_own f (slice_index_or t.highs s 0) n own
    ∙ ap (λ (v : Noted). count_of (slice_index_or v.highs s 0) f.low) same ∙ ap (λ x. count_of x f.low) (sym high)

-- nothing where it is of another
pub found_other : (t u : Noted) (s n : ℕ) (f : Found) → t ≡ u → s ≡ place_of n → s < length t.at → f ≡ slice_index_or t.at s f →
    (f.id == n) ≡ false → found_at u n ≡ 0
found_other t u s n f same at l is other =
    sym (ap (λ (v : Noted). found_at v n) same) ∙ found_read t s n f at l is ∙ count_other f (slice_index_or t.highs s 0) n other

-- and nothing where its place isn't there
pub found_past : (t u : Noted) (s n : ℕ) → t ≡ u → s ≡ place_of n → length t.at ≤ s → found_at u n ≡ 0
unfolding found_at
found_past t u s n same at l =
    sym (ap (λ (v : Noted). found_at v n) same)
    ∙ ap (λ p. held_at t.at p (slice_index_or t.highs p 0) n) (sym at) ∙ held_past t.at s (slice_index_or t.highs s 0) n l

-- what becomes of the notes when a signal is noted at its place, at a count
pub record Notes (t u : Noted) (s id w : ℕ) : Type 0 where
  pub place : s ≡ place_of id
  pub high : slice_index_or u.highs s 0 ≡ w / 2 ^ 64
  pub highs : (p : ℕ) → p ≢ s → slice_index_or u.highs p 0 ≡ slice_index_or t.highs p 0
  pub here : (n high : ℕ) → held_at u.at s high n ≡ count_for high (record { id = id; low = w % 2 ^ 64 }) n
  pub others : (n high : ℕ) → place_of n ≢ s → held_at u.at (place_of n) high n ≡ held_at t.at (place_of n) high n

-- a note of it at its place is found
pub noted_here : (t u : Noted) (s id w : ℕ) → Notes t u s id w → found_at u id ≡ w
unfolding found_at
noted_here t u s id w k =
    let f : Found = record { id = id; low = w % 2 ^ 64 } in
    let high = slice_index_or u.highs s 0 in
    ap (λ p. held_at u.at p (slice_index_or u.highs p 0) id) (sym k.place) ∙ k.here id high ∙ count_own f high id (eq-eqb id id refl)
    ∙ ap (λ h. count_of h (w % 2 ^ 64)) k.high ∙ count_words w

-- and of others it is as before, or forgotten where they share the place
pub noted_others : (t v u : Noted) (s id w : ℕ) → t ≡ v → Notes t u s id w →
    (n : ℕ) → (found_at u n ≡ found_at v n) ⊎ (((n ≡ id) × (found_at u n ≡ w)) ⊎ ((place_of n ≡ place_of id) × (found_at u n ≡ 0)))
unfolding found_at
noted_others t v u s id w same k n = go (place_of n == s) refl
  where
    own : (b : Bool) → (id == n) ≡ b → place_of n ≡ s → ((n ≡ id) × (found_at u n ≡ w)) ⊎ ((place_of n ≡ place_of id) × (found_at u n ≡ 0))
    own true e at = inl (sym (eqb-true id n e), ap (found_at u) (sym (eqb-true id n e)) ∙ noted_here t u s id w k)
    own false e at = inr (
      at ∙ k.place,
      ap (λ p. held_at u.at p (slice_index_or u.highs p 0) n) at ∙ k.here n (slice_index_or u.highs s 0)
          ∙ count_other (record { id = id; low = w % 2 ^ 64 }) (slice_index_or u.highs s 0) n e,
    )

    go : (b : Bool) → (place_of n == s) ≡ b → (found_at u n ≡ found_at v n) ⊎ (((n ≡ id) × (found_at u n ≡ w)) ⊎ ((place_of n ≡ place_of id) × (found_at u n ≡ 0)))
    go true e = inr (own (id == n) refl (eqb-true (place_of n) s e))
    go false e = inl (k.others n (slice_index_or u.highs (place_of n) 0) (eqb-false (place_of n) s e)
        ∙ ap (λ h. held_at t.at (place_of n) h n) (k.highs (place_of n) (eqb-false (place_of n) s e)) ∙ ap (λ (x : Noted). found_at x n) same)
