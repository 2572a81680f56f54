-- The removals leave the kept nodes.
use Rattle.std.proofs.Common.{◌≡◌, ℕ, ◌==◌, Bool, true, false, ◌||◌, ◌&&◌, not, refl, sym, ap, ◌∙◌, eqb-true, eq-eqb, inl, inr, List, [], ◌∷◌, ◌++◌, map}
use Rattle.std.proofs.lemmas.Bool.{cases_Bool, false≢true, or_cases, or_left, or_right}
use Rattle.page_model.specs.Labels.{Kind}
use Rattle.page_model.specs.Replay.{OpRemove, Done, replay}
use Rattle.page_model.specs.Forest.{Forest, none, node, on, pruned, tops}
use Rattle.page_model.specs.Edits.{listed}
use Rattle.page_model.proofs.Facts.{Once}
use Rattle.page_model.proofs.Everywhere.{flipped, not_same, reversed_onto, listed_joined}

pub same_test : (m n : ℕ) → (m == n) ≡ (n == m)
same_test m n = elim (cases_Bool (n == m)) [
  | inl e ↦ (let q : n ≡ m = eqb-true n m e in eq-eqb m n (sym q) ∙ sym e)
  | inr e ↦ flipped n m e ∙ sym e
]

pruned_twice : {A : Type 0} (f g h : ℕ → Bool) (t : Forest A) → ((m : ℕ) → h m ≡ (g m && f m)) → pruned f (pruned g t) ≡ pruned h t
pruned_twice f g h none e = refl
pruned_twice f g h (node m x k r) e =
    let ik = pruned_twice f g h k e in
    let ir = pruned_twice f g h r e in
    elim (cases_Bool (g m)) [
      | inl a ↦ elim (cases_Bool (f m)) [
        | inl b ↦ (let c : h m ≡ true = rw (a, b) at (e m) in rw (a, c) (rw (b, ik, ir) refl))
        | inr b ↦ (let c : h m ≡ false = rw (a, b) at (e m) in rw (a, c) (rw b ir))
      ]
      | inr a ↦ (let c : h m ≡ false = rw a at (e m) in rw (a, c) ir)
    ]

pruned_same : {A : Type 0} (f g : ℕ → Bool) (t : Forest A) → ((m : ℕ) → f m ≡ g m) → pruned f t ≡ pruned g t
pruned_same f g none e = refl
pruned_same f g (node m x k r) e = rw (e m, pruned_same f g k e, pruned_same f g r e) refl

pub in_both : (n : ℕ) (xs ys : List ℕ) → listed n (xs ++ ys) ≡ (listed n xs || listed n ys)
in_both n [] ys = refl
in_both n (x ∷ xs) ys = elim (cases_Bool (x == n)) [ inl e ↦ rw e refl | inr e ↦ rw e (in_both n xs ys) ]

-- a topmost node is there until it is removed
top_on : {A : Type 0} (keep : ℕ → Bool) (n : ℕ) (es : List ℕ) (t : Forest A) → ((m : ℕ) → listed m es ≡ true → keep m ≡ false) → listed n es ≡ false → listed n (tops keep t) ≡ true → on n (pruned (λ m. not (listed m es)) t) ≡ true
top_on keep n es none g l h = h
top_on keep n es (node m x k r) g l h = elim (cases_Bool (keep m)) [
  | inl a ↦ (
      let h' : listed n (tops keep k ++ tops keep r) ≡ true = rw a at h in
      let o = or_cases (listed n (tops keep k)) (listed n (tops keep r)) (sym (in_both n (tops keep k) (tops keep r)) ∙ h') in
      elim (cases_Bool (listed m es)) [
        | inl b ↦ absurd (false≢true (sym (g m b) ∙ a))
        | inr b ↦ rw b (or_right (m == n) (on n (pruned (λ i. not (listed i es)) k) || on n (pruned (λ i. not (listed i es)) r)) (elim o [
          | inl c ↦ or_left (on n (pruned (λ i. not (listed i es)) k)) (on n (pruned (λ i. not (listed i es)) r)) (top_on keep n es k g l c)
          | inr c ↦ or_right (on n (pruned (λ i. not (listed i es)) k)) (on n (pruned (λ i. not (listed i es)) r)) (top_on keep n es r g l c)
        ]))
      ])
  | inr a ↦ (
      let h' : (m == n || listed n (tops keep r)) ≡ true = rw a at h in
      elim (cases_Bool (listed m es)) [
        | inl b ↦ (
            let ne : (m == n) ≡ false = elim (cases_Bool (m == n)) [ inl c ↦ (let q : m ≡ n = eqb-true m n c in absurd (false≢true (sym l ∙ ap (λ i. listed i es) (sym q) ∙ b))) | inr c ↦ c ] in
            rw b (top_on keep n es r g l (rw ne at h')))
        | inr b ↦ elim (cases_Bool (m == n)) [
          | inl c ↦ rw b (or_left (m == n) (on n (pruned (λ i. not (listed i es)) k) || on n (pruned (λ i. not (listed i es)) r)) c)
          | inr c ↦ rw b (or_right (m == n) (on n (pruned (λ i. not (listed i es)) k) || on n (pruned (λ i. not (listed i es)) r)) (or_right (on n (pruned (λ i. not (listed i es)) k)) (on n (pruned (λ i. not (listed i es)) r)) (top_on keep n es r g l (rw c at h'))))
        ]
      ])
]

-- with the topmost gone, just the kept are left
pruned_tops : {A : Type 0} (keep : ℕ → Bool) (es : List ℕ) (t : Forest A) → ((m : ℕ) → listed m es ≡ true → keep m ≡ false) → ((m : ℕ) → listed m (tops keep t) ≡ true → listed m es ≡ true) → pruned (λ m. not (listed m es)) t ≡ pruned keep t
pruned_tops keep es none g h = refl
pruned_tops keep es (node m x k r) g h = elim (cases_Bool (keep m)) [
  | inl a ↦ (
      let h' : (j : ℕ) → listed j (tops keep k ++ tops keep r) ≡ true → listed j es ≡ true = rw a at h in
      let b : listed m es ≡ false = elim (cases_Bool (listed m es)) [ inl c ↦ absurd (false≢true (sym (g m c) ∙ a)) | inr c ↦ c ] in
      let ik = pruned_tops keep es k g (λ j i. h' j (in_both j (tops keep k) (tops keep r) ∙ or_left (listed j (tops keep k)) (listed j (tops keep r)) i)) in
      let ir = pruned_tops keep es r g (λ j i. h' j (in_both j (tops keep k) (tops keep r) ∙ or_right (listed j (tops keep k)) (listed j (tops keep r)) i)) in
      rw (a, b, ik, ir) refl)
  | inr a ↦ (
      let h' : (j : ℕ) → listed j (m ∷ tops keep r) ≡ true → listed j es ≡ true = rw a at h in
      let b : listed m es ≡ true = h' m (or_left (m == m) (listed m (tops keep r)) (eq-eqb m m refl)) in
      let ir = pruned_tops keep es r g (λ j i. h' j (or_right (m == j) (listed j (tops keep r)) i)) in
      rw (a, b) ir)
]

denied : (a b : Bool) → not (a || b) ≡ (not b && not a)
denied true true = refl
denied true false = refl
denied false true = refl
denied false false = refl

pub or_none : (a : Bool) → (a || false) ≡ a
or_none true = refl
or_none false = refl

pruned_all : {A : Type 0} (t : Forest A) → pruned (λ m. true) t ≡ t
pruned_all none = refl
pruned_all (node m x k r) = rw (pruned_all k, pruned_all r) refl

tops_gone : {A : Type 0} (keep : ℕ → Bool) (n : ℕ) (t : Forest A) → listed n (tops keep t) ≡ true → keep n ≡ false
tops_gone keep n none h = absurd (false≢true h)
tops_gone keep n (node m x k r) h = elim (cases_Bool (keep m)) [
  | inl a ↦ (
      let h' : listed n (tops keep k ++ tops keep r) ≡ true = rw a at h in
      elim (or_cases (listed n (tops keep k)) (listed n (tops keep r)) (sym (in_both n (tops keep k) (tops keep r)) ∙ h')) [ inl c ↦ tops_gone keep n k c | inr c ↦ tops_gone keep n r c ])
  | inr a ↦ (
      let h' : (m == n || listed n (tops keep r)) ≡ true = rw a at h in
      elim (cases_Bool (m == n)) [
        | inl c ↦ (let q : m ≡ n = eqb-true m n c in ap keep (sym q) ∙ a)
        | inr c ↦ tops_gone keep n r (rw c at h')
      ])
]

removed_from : (keep : ℕ → Bool) (ns es : List ℕ) (t : Forest Kind) → keep 0 ≡ true → Once ns → ((m : ℕ) → listed m es ≡ true → keep m ≡ false) → ((n : ℕ) → listed n ns ≡ true → (keep n ≡ false) × (listed n (tops keep t) ≡ true) × (listed n es ≡ false)) → replay (map OpRemove ns) (pruned (λ m. not (listed m es)) t) ≡ Done (pruned (λ m. not (listed m (reversed_onto ns es))) t)
removed_from keep [] es t z o g h = refl
removed_from keep (n ∷ ns) es t z o g h =
    let f = h n (or_left (n == n) (listed n ns) (eq-eqb n n refl)) in
    let there = top_on keep n es t g f.2 f.1 in
    let not_root : (n == 0) ≡ false = elim (cases_Bool (n == 0)) [ inl c ↦ (let q : n ≡ 0 = eqb-true n 0 c in absurd (false≢true (sym f.0 ∙ ap keep q ∙ z))) | inr c ↦ c ] in
    let e = pruned_twice (λ m. not (m == n)) (λ m. not (listed m es)) (λ m. not (listed m (n ∷ es))) t (λ m. (let s = same_test n m in rw s (denied (m == n) (listed m es)))) in
    let rest = removed_from keep ns (n ∷ es) t z o.1
    (λ m i. elim (cases_Bool (n == m)) [
      | inl c ↦ (let q : n ≡ m = eqb-true n m c in ap keep (sym q) ∙ f.0)
      | inr c ↦ g m (rw c at i)
    ])
    (λ m i. (let y = h m (or_right (n == m) (listed m ns) i) in (y.0, y.1, rw (not_same n m ns o.0 i) y.2))) in
    rw (there, not_root) (rw e rest)

pub removed : (keep : ℕ → Bool) (ns : List ℕ) (t : Forest Kind) → keep 0 ≡ true → Once ns → ((n : ℕ) → listed n ns ≡ listed n (tops keep t)) → replay (map OpRemove ns) t ≡ Done (pruned keep t)
removed keep ns t z o e =
    let a = removed_from keep ns [] t z o (λ m i. absurd (false≢true i)) (λ n i. (tops_gone keep n t (sym (e n) ∙ i), sym (e n) ∙ i, refl)) in
    let s = pruned_all t in
    let b = pruned_tops keep (reversed_onto ns []) t
    (λ m i. tops_gone keep m t (sym (e m) ∙ (sym (listed_joined m ns [] ∙ or_none (listed m ns)) ∙ i)))
    (λ m i. listed_joined m ns [] ∙ (or_none (listed m ns) ∙ (e m ∙ i))) in
    ap (replay (map OpRemove ns)) (sym s) ∙ a ∙ ap Done b
