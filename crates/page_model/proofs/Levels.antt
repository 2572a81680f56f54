-- The depths of two linked trees.
use Rattle.std.proofs.Common.{◌≡◌, ℕ, suc, ◌+◌, ◌<◌, ◌≤◌, ◌==◌, Bool, true, false, ◌||◌, refl, sym, ap, ◌∙◌, arith, eq-eqb, inl, inr}
use Rattle.std.proofs.lemmas.Bool.{cases_Bool, false≢true, or_left, or_right, or_parts}
use Rattle.page_model.specs.Forest.{Forest, none, node, has, on, tally, parent, label_in, depth, height}
use Rattle.page_model.specs.Labels.{Root, Kind, holds}
use Rattle.page_model.proofs.Tally.{on_tally, tally_off, has_on}
use Rattle.page_model.proofs.Linked.{Sits, Tells, has_parent, self_on}
use Rattle.page_model.proofs.Depths.{Fits}

depth_top : {A : Type 0} (n : ℕ) (t : Forest A) → has n t ≡ true → tally n t ≤ 1 → depth n t ≡ 0
depth_top n none h l = refl
depth_top n (node m x k r) h l = elim (cases_Bool (m == n)) [
  | inl e ↦ rw e refl
  | inr e ↦ (
      let h' : has n r ≡ true = rw e at h in
      let u = on_tally n r (has_on n r h') in
      let z : on n k ≡ false = tally_off n k (omega (arith, l)) in
      rw (e, z) (depth_top n r h' (omega (arith, l))))
]

pub depth_parent : {A : Type 0} (n : ℕ) (t : Forest A) → ((j : ℕ) → tally j t ≤ 1) → on n t ≡ true → has n t ≡ false → depth n t ≡ suc (depth (parent n t) t)
depth_parent n none l o h = absurd (false≢true o)
depth_parent n (node m x k r) l o h =
    let a = or_parts (m == n) (has n r) h in
    let here : (m == m) ≡ true = eq-eqb m m refl in
    elim (cases_Bool (has n k)) [
      | inl e ↦ (
          let f = has_on n k e in
          let z = depth_top n k e (let i = l n in omega arith) in
          rw (e, a.0, f, here, z) refl)
      | inr e ↦ elim (cases_Bool (on n k)) [
        | inl f ↦ (
            let lk : (j : ℕ) → tally j k ≤ 1 = λ j. (let i = l j in omega arith) in
            let i = depth_parent n k lk f e in
            let p = (has_parent n k lk f e).1 in
            let u = on_tally (parent n k) k p in
            let q : (m == parent n k) ≡ false = elim (cases_Bool (m == parent n k)) [ inl c ↦ (let v = rw c at (l (parent n k)) in absurd (omega arith)) | inr c ↦ c ] in
            let y : parent n (node m x k r) ≡ parent n k = rw (e, f) refl in
            let here' : depth n (node m x k r) ≡ suc (depth n k) = rw (a.0, f) refl in
            let there : depth (parent n k) (node m x k r) ≡ suc (depth (parent n k) k) = rw (q, p) refl in
            here' ∙ (ap suc i ∙ sym (ap (λ j. suc (depth j (node m x k r))) y ∙ ap suc there)))
        | inr f ↦ (
            let lr : (j : ℕ) → tally j r ≤ 1 = λ j. (let i = l j in omega arith) in
            let o' : on n r ≡ true = rw (a.0, f) at o in
            let i = depth_parent n r lr o' a.1 in
            let p = (has_parent n r lr o' a.1).1 in
            let u = on_tally (parent n r) r p in
            let w = l (parent n r) in
            let q : (m == parent n r) ≡ false = elim (cases_Bool (m == parent n r)) [ inl c ↦ (let v = rw c at w in absurd (omega arith)) | inr c ↦ c ] in
            let z : on (parent n r) k ≡ false = tally_off (parent n r) k (omega arith) in
            let y : parent n (node m x k r) ≡ parent n r = rw (e, f) refl in
            let here' : depth n (node m x k r) ≡ depth n r = rw (a.0, f) refl in
            let there : depth (parent n r) (node m x k r) ≡ depth (parent n r) r = rw (q, z) refl in
            here' ∙ (i ∙ sym (ap (λ j. suc (depth j (node m x k r))) y ∙ ap suc there)))
      ]
    ]

pub depth_low : {A : Type 0} (n : ℕ) (t : Forest A) → on n t ≡ true → depth n t < height t
depth_low n none o = absurd (false≢true o)
depth_low n (node m x k r) o = elim (cases_Bool (m == n)) [
  | inl e ↦ rw e (omega arith)
  | inr e ↦ elim (cases_Bool (on n k)) [
    | inl f ↦ (let i = depth_low n k f in rw (e, f) (omega (arith, i)))
    | inr f ↦ (let i = depth_low n r (rw (e, f) at o) in rw (e, f) (omega (arith, i)))
  ]
]

-- a tree fits its own depths and labels
pub fits_self : (lev : ℕ → ℕ) (hold : ℕ → Bool) (d : ℕ) (t : Forest Kind) → ((j : ℕ) → tally j t ≤ 1) → ((n : ℕ) → on n t ≡ true → (lev n ≡ d + depth n t) × (holds (label_in Root n t) ≡ hold n)) → Fits lev hold d t
fits_self lev hold d none l h = tt
fits_self lev hold d (node m x k r) l h =
    let here : (m == m) ≡ true = eq-eqb m m refl in
    let a = rw here at (h m (self_on m x k r)) in (
      (let b = a.0 in omega arith),
      a.1,
      fits_self lev hold (suc d) k (λ j. (let i = l j in omega arith)) (λ n e. (
          let b = h n (or_right (m == n) (on n k || on n r) (or_left (on n k) (on n r) e)) in
          let u = on_tally n k e in
          let q : (m == n) ≡ false = elim (cases_Bool (m == n)) [ inl c ↦ (let v = rw c at (l n) in absurd (omega arith)) | inr c ↦ c ] in
          let c = rw (q, e) at b in
          (let f = c.0 in omega arith, c.1))),
      fits_self lev hold d r (λ j. (let i = l j in omega arith)) (λ n e. (
          let b = h n (or_right (m == n) (on n k || on n r) (or_right (on n k) (on n r) e)) in
          let u = on_tally n r e in
          let w = l n in
          let q : (m == n) ≡ false = elim (cases_Bool (m == n)) [ inl c ↦ (let v = rw c at w in absurd (omega arith)) | inr c ↦ c ] in
          let z : on n k ≡ false = tally_off n k (omega arith) in
          rw (q, z) at b)),
    )

-- a tree whose nodes stand one below their parents fits
pub fits_sits : (lev : ℕ → ℕ) (hold : ℕ → Bool) (up : ℕ → ℕ) (lab : ℕ → Kind) (d : ℕ) (t : Forest Kind) → Sits up t → Tells lab t → ((n : ℕ) → has n t ≡ true → lev n ≡ d) → ((n : ℕ) → on n t ≡ true → holds (lab n) ≡ hold n) → ((n : ℕ) → on n t ≡ true → has n t ≡ false → lev n ≡ suc (lev (up n))) → ((j : ℕ) → tally j t ≤ 1) → Fits lev hold d t
fits_sits lev hold up lab d none s te h ho st l = tt
fits_sits lev hold up lab d (node m x k r) s te h ho st l =
    let hm = h m (or_left (m == m) (has m r) (eq-eqb m m refl)) in
    let up_k : (n : ℕ) → on n k ≡ true → on n (node m x k r) ≡ true = λ n e. or_right (m == n) (on n k || on n r) (or_left (on n k) (on n r) e) in
    let up_r : (n : ℕ) → on n r ≡ true → on n (node m x k r) ≡ true = λ n e. or_right (m == n) (on n k || on n r) (or_right (on n k) (on n r) e) in
    let low_k : (n : ℕ) → on n k ≡ true → has n (node m x k r) ≡ false = λ n e. (
    let u = on_tally n k e in
    let w = l n in
    let q : (m == n) ≡ false = elim (cases_Bool (m == n)) [ inl c ↦ (let v = rw c at w in absurd (omega arith)) | inr c ↦ c ] in
    let z : has n r ≡ false = elim (cases_Bool (has n r)) [ inl c ↦ (let v = on_tally n r (has_on n r c) in absurd (omega arith)) | inr c ↦ c ] in
    rw (q, z) refl) in (
      hm,
      ap holds (sym te.0) ∙ ho m (self_on m x k r),
      fits_sits lev hold up lab (suc d) k s.1 te.1 (λ n e. st n (up_k n (has_on n k e)) (low_k n (has_on n k e)) ∙ ap (λ i. suc (lev i)) (s.0 n e) ∙ ap suc hm)
          (λ n e. ho n (up_k n e)) (λ n e _. st n (up_k n e) (low_k n e)) (λ j. (let i = l j in omega arith)),
      fits_sits lev hold up lab d r s.2 te.2 (λ n e. h n (or_right (m == n) (has n r) e))
          (λ n e. ho n (up_r n e)) (λ n e z. st n (up_r n e) (
          let u = on_tally n r e in
          let w = l n in
          let q : (m == n) ≡ false = elim (cases_Bool (m == n)) [ inl c ↦ (let v = rw c at w in absurd (omega arith)) | inr c ↦ c ] in
          rw (q, z) refl)) (λ j. (let i = l j in omega arith)),
    )
