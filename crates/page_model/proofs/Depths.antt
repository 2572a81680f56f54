-- How far below the root the nodes stand, and which can hold children.
use Rattle.std.proofs.Common.{◌≡◌, ℕ, zero, suc, ◌+◌, ◌<◌, ◌≤◌, ◌==◌, Bool, true, false, ◌||◌, refl, sym, ap, subst, ◌∙◌, arith, eqb-true, eq-eqb, inl, inr, Some, None, List, [], ◌∷◌, leb, ltb, not, ◌&&◌}
use Rattle.std.proofs.lemmas.Bool.{cases_Bool, false≢true, or_left, or_right}
use Rattle.page_model.specs.Forest.{Forest, none, node, after, count, has, only, without, put, stands, moved, on, kids, label_in, depth, at}
use Rattle.page_model.specs.Labels.{Root, Kind, holds}
use Rattle.page_model.specs.Replay.{first_deep}
use Rattle.page_model.proofs.Facts.{take_step, Step, Insert, Move, steps, led_by}
use Rattle.page_model.proofs.Lists.{when, not_ltb}

-- each node stands as many steps below the root as `lev` says, and can hold children where `hold` says so
abbrev pub Fits : (ℕ → ℕ) → (ℕ → Bool) → ℕ → Forest Kind → Type 0
Fits lev hold d none = Unit {0}
Fits lev hold d (node m x k r) = (lev m ≡ d) × (holds x ≡ hold m) × Fits lev hold (suc d) k × Fits lev hold d r

fits_after : (lev : ℕ → ℕ) (hold : ℕ → Bool) (d : ℕ) (xs ys : Forest Kind) → Fits lev hold d xs → Fits lev hold d ys → Fits lev hold d (after xs ys)
fits_after lev hold d none ys f g = g
fits_after lev hold d (node m x k r) ys f g = (f.0, f.1, f.2, fits_after lev hold d r ys f.3 g)

fits_put : (lev : ℕ → ℕ) (hold : ℕ → Bool) (d i : ℕ) (xs ys : Forest Kind) → Fits lev hold d xs → Fits lev hold d ys → Fits lev hold d (put i xs ys)
fits_put lev hold d zero xs ys f g = fits_after lev hold d xs ys f g
fits_put lev hold d (suc i) xs none f g = f
fits_put lev hold d (suc i) xs (node m x k r) f g = (g.0, g.1, g.2, fits_put lev hold d i xs r f g.3)

fits_only : (lev : ℕ → ℕ) (hold : ℕ → Bool) (d n : ℕ) (xs : Forest Kind) → Fits lev hold d xs → Fits lev hold d (only n xs)
fits_only lev hold d n none f = tt
fits_only lev hold d n (node m x k r) f = elim (cases_Bool (m == n)) [
  | inl e ↦ rw e (f.0, f.1, f.2, tt)
  | inr e ↦ rw e (fits_only lev hold d n r f.3)
]

fits_without : (lev : ℕ → ℕ) (hold : ℕ → Bool) (d n : ℕ) (xs : Forest Kind) → Fits lev hold d xs → Fits lev hold d (without n xs)
fits_without lev hold d n none f = tt
fits_without lev hold d n (node m x k r) f = elim (cases_Bool (m == n)) [
  | inl e ↦ rw e f.3
  | inr e ↦ rw e (f.0, f.1, f.2, fits_without lev hold d n r f.3)
]

pub fits_led : (lev : ℕ → ℕ) (hold : ℕ → Bool) (d : ℕ) (kept : ℕ → Bool) (now new : Forest Kind) → Fits lev hold d now → Fits lev hold d new → Fits lev hold d (led_by kept now new)
fits_led lev hold d kept now none f g = tt
fits_led lev hold d kept now (node n x k r) f g =
    let i = fits_led lev hold d kept now r f g.3 in
    elim (cases_Bool (kept n)) [
      | inl e ↦ rw e (fits_after lev hold d (only n now) (led_by kept now r) (fits_only lev hold d n now f) i)
      | inr e ↦ rw e (g.0, g.1, g.2, i)
    ]

pub fits_at : (lev : ℕ → ℕ) (hold : ℕ → Bool) (d p : ℕ) (f : Forest Kind → Forest Kind) (t : Forest Kind) → ((k : Forest Kind) → Fits lev hold (suc (lev p)) k → Fits lev hold (suc (lev p)) (f k)) → Fits lev hold d t → Fits lev hold d (at p f t)
fits_at lev hold d p f none h g = tt
fits_at lev hold d p f (node m x k r) h g =
    let ir = fits_at lev hold d p f r h g.3 in
    elim (cases_Bool (m == p)) [
      | inl e ↦ (
          let q : m ≡ p = eqb-true m p e in
          let s : suc (lev p) ≡ suc d = ap (λ i. suc (lev i)) (sym q) ∙ ap suc g.0 in
          let P : ℕ → Type 0 = λ i. Fits lev hold i (f k) in
          let Q : ℕ → Type 0 = λ i. Fits lev hold i k in
          rw e (g.0, g.1, subst P s (h k (subst Q (sym s) g.2)), ir))
      | inr e ↦ rw e (g.0, g.1, fits_at lev hold (suc d) p f k h g.2, ir)
    ]

pub fits_kids : (lev : ℕ → ℕ) (hold : ℕ → Bool) (d p : ℕ) (t : Forest Kind) → on p t ≡ true → Fits lev hold d t → Fits lev hold (suc (lev p)) (kids p t)
fits_kids lev hold d p none o g = tt
fits_kids lev hold d p (node m x k r) o g = elim (cases_Bool (m == p)) [
  | inl e ↦ (
      let q : m ≡ p = eqb-true m p e in
      let s : suc (lev p) ≡ suc d = ap (λ i. suc (lev i)) (sym q) ∙ ap suc g.0 in
      let Q : ℕ → Type 0 = λ i. Fits lev hold i k in
      rw e (subst Q (sym s) g.2))
  | inr e ↦ elim (cases_Bool (on p k)) [
    | inl h ↦ rw (e, h) (fits_kids lev hold (suc d) p k h g.2)
    | inr h ↦ rw (e, h) (fits_kids lev hold d p r (rw (e, h) at o) g.3)
  ]
]

pub fits_depth : (lev : ℕ → ℕ) (hold : ℕ → Bool) (d p : ℕ) (t : Forest Kind) → on p t ≡ true → Fits lev hold d t → d + depth p t ≡ lev p
fits_depth lev hold d p none o g = absurd (false≢true o)
fits_depth lev hold d p (node m x k r) o g = elim (cases_Bool (m == p)) [
  | inl e ↦ (let q : m ≡ p = eqb-true m p e in let s = ap lev q in let u = g.0 in rw e (omega arith))
  | inr e ↦ elim (cases_Bool (on p k)) [
    | inl h ↦ (let i = fits_depth lev hold (suc d) p k h g.2 in rw (e, h) (omega (arith, i)))
    | inr h ↦ rw (e, h) (fits_depth lev hold d p r (rw (e, h) at o) g.3)
  ]
]

pub fits_hold : (lev : ℕ → ℕ) (hold : ℕ → Bool) (d p : ℕ) (t : Forest Kind) → on p t ≡ true → Fits lev hold d t → holds (label_in Root p t) ≡ hold p
fits_hold lev hold d p none o g = absurd (false≢true o)
fits_hold lev hold d p (node m x k r) o g = elim (cases_Bool (m == p)) [
  | inl e ↦ (let q : m ≡ p = eqb-true m p e in rw e (g.1 ∙ ap hold q))
  | inr e ↦ elim (cases_Bool (on p k)) [
    | inl h ↦ rw (e, h) (fits_hold lev hold (suc d) p k h g.2)
    | inr h ↦ rw (e, h) (fits_hold lev hold d p r (rw (e, h) at o) g.3)
  ]
]

pub fits_deep : (lev : ℕ → ℕ) (hold : ℕ → Bool) (d : ℕ) (t : Forest Kind) → Fits lev hold d t → ((j : ℕ) → on j t ≡ true → lev j ≤ 32) → first_deep d t ≡ None
fits_deep lev hold d none g l = refl
fits_deep lev hold d (node m x k r) g l =
    let a = l m (or_left (m == m) (on m k || on m r) (eq-eqb m m refl)) in
    let b = g.0 in
    let c : ltb 32 d ≡ false = not_ltb 32 d (omega arith) in
    let ik = fits_deep lev hold (suc d) k g.2 (λ j e. l j (or_right (m == j) (on j k || on j r) (or_left (on j k) (on j r) e))) in
    let ir = fits_deep lev hold d r g.3 (λ j e. l j (or_right (m == j) (on j k || on j r) (or_right (on j k) (on j r) e))) in
    rw (c, ik, ir) refl

first_only : (n j : ℕ) (x : Kind) (k r : Forest Kind) → on j (node n x k none) ≡ true → on j (node n x k r) ≡ true
first_only n j x k r o = elim (cases_Bool (n == j)) [
  | inl e ↦ rw e refl
  | inr e ↦ elim (cases_Bool (on j k)) [ inl f ↦ rw (e, f) refl | inr f ↦ absurd (false≢true (rw (e, f) at o)) ]
]

-- ---- what the steps bring in

-- a new child is put where it belongs
abbrev pub Brought : (ℕ → ℕ) → (ℕ → Bool) → ℕ → Step Kind → Type 0
Brought lev hold p (Insert i n x k) = (hold p ≡ true) × Fits lev hold (suc (lev p)) (node n x k none) × ((j : ℕ) → on j (node n x k none) ≡ true → lev j ≤ 32)
Brought lev hold p (Move n i) = Unit {0}

abbrev pub AllBrought : (ℕ → ℕ) → (ℕ → Bool) → ℕ → List (Step Kind) → Type 0
AllBrought lev hold p [] = Unit {0}
AllBrought lev hold p (s ∷ ss) = Brought lev hold p s × AllBrought lev hold p ss

pub steps_brought : (lev : ℕ → ℕ) (hold : ℕ → Bool) (p i : ℕ) (now new : Forest Kind) → (0 < count new → hold p ≡ true) → Fits lev hold (suc (lev p)) new → ((j : ℕ) → on j new ≡ true → lev j ≤ 32) → AllBrought lev hold p (steps i now new)
steps_brought lev hold p i now none h f l = tt
steps_brought lev hold p i now (node n x k r) h f l =
    let hp : hold p ≡ true = h (omega arith) in
    let lr : (j : ℕ) → on j r ≡ true → lev j ≤ 32 = λ j e. l j (or_right (n == j) (on j k || on j r) (or_right (on j k) (on j r) e)) in
    elim (cases_Bool (has n now)) [
      | inl e ↦ elim (cases_Bool (stands n i now)) [
        | inl s ↦ rw (e, s) (steps_brought lev hold p (suc i) now r (λ _. hp) f.3 lr)
        | inr s ↦ rw (e, s) (tt, steps_brought lev hold p (suc i) (moved n i now) r (λ _. hp) f.3 lr)
      ]
      | inr e ↦ rw e ((hp, (f.0, f.1, f.2, tt), λ j o. l j (first_only n j x k r o)), steps_brought lev hold p (suc i) (put i (node n x k none) now) r (λ _. hp) f.3 lr)
    ]

pub fits_step : (lev : ℕ → ℕ) (hold : ℕ → Bool) (p : ℕ) (s : Step Kind) (xs ys : Forest Kind) → Brought lev hold p s → Fits lev hold (suc (lev p)) xs → take_step s xs ≡ Some ys → Fits lev hold (suc (lev p)) ys
fits_step lev hold p (Insert i n x k) xs ys b f e =
    let w = when (leb i (count xs) && not (has n xs)) (put i (node n x k none) xs) ys e in
    let P : Forest Kind → Type 0 = λ z. Fits lev hold (suc (lev p)) z in
    subst P w.1 (fits_put lev hold (suc (lev p)) i (node n x k none) xs b.1 f)
fits_step lev hold p (Move n i) xs ys b f e =
    let w = when (has n xs && ltb i (count xs)) (moved n i xs) ys e in
    let P : Forest Kind → Type 0 = λ z. Fits lev hold (suc (lev p)) z in
    subst P w.1 (fits_put lev hold (suc (lev p)) i (only n xs) (without n xs) (fits_only lev hold (suc (lev p)) n xs f) (fits_without lev hold (suc (lev p)) n xs f))
