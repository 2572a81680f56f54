-- Lists read in ascending order: the order in which they were written doesn't matter, nor do members that say nothing.
use Rattle.std.proofs.Common.{◌≡◌, ℕ, ◌+◌, ◌≤◌, ◌==◌, Bool, true, false, not, refl, sym, ap, ◌∙◌, arith, leb, if◌then◌else◌, eqb-true, eq-eqb, inl, inr, List, [], ◌∷◌, ◌++◌, map}
use Rattle.std.specs.List.{flat_map}
use Rattle.std.proofs.lemmas.Bool.{cases_Bool, false≢true, true≢false, leb-true, leb-false}
use Rattle.page_model.specs.Forest.{one}
use Rattle.page_model.specs.Edits.{into, ascending, listed, taken}
use Rattle.page_model.specs.Pages.{into_by, ascending_by, those}
use Rattle.tpl_model.specs.PageUpdates.Differences.{often}
use Rattle.page_model.proofs.Shared.{or_left, or_right}

pub often_both : (j : ℕ) (xs ys : List ℕ) → often j (xs ++ ys) ≡ often j xs + often j ys
often_both j [] ys = omega arith
often_both j (x ∷ xs) ys = omega (arith, often_both j xs ys)

pub listed_often : (j : ℕ) (xs : List ℕ) → listed j xs ≡ true → 1 ≤ often j xs
listed_often j [] h = absurd (false≢true h)
listed_often j (x ∷ xs) h = elim (cases_Bool (x == j)) [
  | inl e ↦ rw e (omega arith)
  | inr e ↦ (let i = listed_often j xs (rw e at h) in omega (arith, i))
]

pub often_listed : (j : ℕ) (xs : List ℕ) → 1 ≤ often j xs → listed j xs ≡ true
often_listed j [] h = absurd (omega arith)
often_listed j (x ∷ xs) h = elim (cases_Bool (x == j)) [
  | inl e ↦ rw e refl
  | inr e ↦ (let i : 1 ≤ often j xs = (let k = rw e at h in omega arith) in rw e (often_listed j xs i))
]

pub unlisted_often : (j : ℕ) (xs : List ℕ) → listed j xs ≡ false → often j xs ≡ 0
unlisted_often j [] h = refl
unlisted_often j (x ∷ xs) h = elim (cases_Bool (x == j)) [
  | inl e ↦ absurd (true≢false (rw e at h))
  | inr e ↦ (let i = unlisted_often j xs (rw e at h) in rw e (omega arith))
]

pub often_taken : (j n : ℕ) (xs : List ℕ) → listed n xs ≡ true → one (n == j) + often j (taken n xs) ≡ often j xs
often_taken j n [] h = absurd (false≢true h)
often_taken j n (x ∷ xs) h = elim (cases_Bool (x == n)) [
  | inl e ↦ (let q : x ≡ n = eqb-true x n e in rw e (ap (λ z. one (z == j) + often j xs) (sym q)))
  | inr e ↦ (let i = often_taken j n xs (rw e at h) in rw e (omega (arith, i)))
]

-- ---- the order in which they were put in

into_twice : (num : ℕ → ℕ) (a b : ℕ) (cs : List ℕ) → (num a ≡ num b → a ≡ b) → into_by num a (into_by num b cs) ≡ into_by num b (into_by num a cs)
into_twice num a b [] d = elim (cases_Bool (leb (num a) (num b))) [
  | inl e ↦ elim (cases_Bool (leb (num b) (num a))) [
    | inl f ↦ (let q : a ≡ b = d (let u = leb-true _ _ e in let v = leb-true _ _ f in omega arith) in ap (λ z. into_by num a (z ∷ [])) (sym q) ∙ ap (λ z. into_by num z (a ∷ [])) q)
    | inr f ↦ rw (e, f) refl
  ]
  | inr e ↦ elim (cases_Bool (leb (num b) (num a))) [
    | inl f ↦ rw (e, f) refl
    | inr f ↦ (let u = leb-false _ _ e in let v = leb-false _ _ f in absurd (omega arith))
  ]
]
into_twice num a b (c ∷ cs) d = elim (cases_Bool (leb (num b) (num c))) [
  | inl e ↦ elim (cases_Bool (leb (num a) (num c))) [
    | inl f ↦ elim (cases_Bool (leb (num a) (num b))) [
      | inl g ↦ elim (cases_Bool (leb (num b) (num a))) [
        | inl h ↦ (let q : a ≡ b = d (let u = leb-true _ _ g in let v = leb-true _ _ h in omega arith) in ap (λ z. into_by num a (into_by num z (c ∷ cs))) (sym q) ∙ ap (λ z. into_by num z (into_by num a (c ∷ cs))) q)
        | inr h ↦ rw (e, f) (rw (g, h) (rw e refl))
      ]
      | inr g ↦ elim (cases_Bool (leb (num b) (num a))) [
        | inl h ↦ rw (e, f) (rw (g, h) refl)
        | inr h ↦ (let u = leb-false _ _ g in let v = leb-false _ _ h in absurd (omega arith))
      ]
    ]
    | inr f ↦ (
        let g : leb (num a) (num b) ≡ false = elim (cases_Bool (leb (num a) (num b))) [ inl g ↦ (let u = leb-true _ _ g in let v = leb-true _ _ e in let w = leb-false _ _ f in absurd (omega arith)) | inr g ↦ g ] in
        rw (e, f) (rw (g, e) refl))
  ]
  | inr e ↦ elim (cases_Bool (leb (num a) (num c))) [
    | inl f ↦ (
        let g : leb (num b) (num a) ≡ false = elim (cases_Bool (leb (num b) (num a))) [ inl g ↦ (let u = leb-true _ _ g in let v = leb-true _ _ f in let w = leb-false _ _ e in absurd (omega arith)) | inr g ↦ g ] in
        rw (e, f) (rw g (rw e refl)))
    | inr f ↦ rw (e, f) (rw e (ap (λ z. c ∷ z) (into_twice num a b cs d)))
  ]
]

-- one member is put in last
drawn : (num : ℕ → ℕ) (a : ℕ) (ys : List ℕ) → listed a ys ≡ true → ((b : ℕ) → listed b ys ≡ true → num a ≡ num b → a ≡ b) → ascending_by num ys ≡ into_by num a (ascending_by num (taken a ys))
drawn num a [] h d = absurd (false≢true h)
drawn num a (y ∷ ys) h d = elim (cases_Bool (y == a)) [
  | inl e ↦ (let q : y ≡ a = eqb-true y a e in rw e (ap (λ z. into_by num z (ascending_by num ys)) q))
  | inr e ↦ (
      let i = drawn num a ys (rw e at h) (λ b g. d b (or_right (y == b) (listed b ys) g)) in
      let c = into_twice num y a (ascending_by num (taken a ys)) (λ q. sym (d y (or_left (y == y) (listed y ys) (eq-eqb y y refl)) (sym q))) in
      rw e (ap (into_by num y) i ∙ c))
]

-- two lists with the same members as often
pub same_order : (num : ℕ → ℕ) (xs ys : List ℕ) → ((j : ℕ) → often j xs ≡ often j ys) → ((a b : ℕ) → listed a xs ≡ true → listed b xs ≡ true → num a ≡ num b → a ≡ b) → ascending_by num xs ≡ ascending_by num ys
same_order num [] [] e d = refl
same_order num [] (y ∷ ys) e d = (let i = e y in let h : (y == y) ≡ true = eq-eqb y y refl in let k = rw h at i in absurd (omega arith))
same_order num (x ∷ xs) ys e d =
    let here : (x == x) ≡ true = eq-eqb x x refl in
    let ex = rw here at (e x) in
    let l : listed x ys ≡ true = often_listed x ys (omega arith) in
    let back : (b : ℕ) → listed b ys ≡ true → listed b (x ∷ xs) ≡ true = λ b g. often_listed b (x ∷ xs) (let u = listed_often b ys g in let v = e b in omega arith) in
    let i = same_order num xs (taken x ys) (λ j. (let u = often_taken j x ys l in let v = e j in omega arith)) (λ a b g h. d a b (or_right (x == a) (listed a xs) g) (or_right (x == b) (listed b xs) h)) in
    ap (into_by num x) i ∙ sym (drawn num x ys l (λ b g q. d x b (or_left (x == x) (listed x xs) here) (back b g) q))

-- ---- members that say nothing

flat_into : {X : Type 0} (num : ℕ → ℕ) (f : ℕ → List X) (a : ℕ) (xs : List ℕ) → f a ≡ [] → flat_map f (into_by num a xs) ≡ flat_map f xs
flat_into num f a [] h = rw h refl
flat_into num f a (x ∷ xs) h = elim (cases_Bool (leb (num a) (num x))) [
  | inl e ↦ rw (e, h) refl
  | inr e ↦ rw e (ap (λ z. f x ++ z) (flat_into num f a xs h))
]

silent : {X : Type 0} (num : ℕ → ℕ) (f : ℕ → List X) (rs ms : List ℕ) → ((j : ℕ) → listed j rs ≡ true → f j ≡ []) → flat_map f (ascending_by num (rs ++ ms)) ≡ flat_map f (ascending_by num ms)
silent num f [] ms h = refl
silent num f (r ∷ rs) ms h =
    flat_into num f r (ascending_by num (rs ++ ms)) (h r (or_left (r == r) (listed r rs) (eq-eqb r r refl))) ∙ silent num f rs ms (λ j g. h j (or_right (r == j) (listed j rs) g))

pub often_those : (test : ℕ → Bool) (j : ℕ) (xs : List ℕ) → often j (those test xs) ≡ (if test j then often j xs else 0)
often_those test j [] = elim (cases_Bool (test j)) [ inl e ↦ rw e refl | inr e ↦ rw e refl ]
often_those test j (x ∷ xs) =
    let i = often_those test j xs in
    elim (cases_Bool (x == j)) [
      | inl e ↦ (let q : x ≡ j = eqb-true x j e in elim (cases_Bool (test j)) [
        | inl t ↦ (let u : test x ≡ true = ap test q ∙ t in let i' = rw t at i in rw (u, t) (rw e (omega (arith, i'))))
        | inr t ↦ (let u : test x ≡ false = ap test q ∙ t in let i' = rw t at i in rw (u, t) i')
      ])
      | inr e ↦ elim (cases_Bool (test x)) [
        | inl t ↦ (let a : often j (x ∷ those test xs) ≡ often j (those test xs) = rw e (omega arith) in let b : often j (x ∷ xs) ≡ often j xs = rw e (omega arith) in rw (t, a, b) i)
        | inr t ↦ (let b : often j (x ∷ xs) ≡ often j xs = rw e (omega arith) in rw (t, b) i)
      ]
    ]

-- What members say, read in ascending order: only those need be listed that say something.
pub read_marked : {X : Type 0} (num : ℕ → ℕ) (f : ℕ → List X) (ks ms : List ℕ) →
    ((a b : ℕ) → listed a ks ≡ true → listed b ks ≡ true → num a ≡ num b → a ≡ b) → ((j : ℕ) → often j ks ≤ 1) → ((j : ℕ) → often j ms ≤ often j ks) → ((j : ℕ) → listed j ks ≡ true → listed j ms ≡ false → f j ≡ []) →
    flat_map f (ascending_by num ks) ≡ flat_map f (ascending_by num ms)
read_marked num f ks ms d o few h =
    let rs = those (λ j. not (listed j ms)) ks in
    let same : (j : ℕ) → often j ks ≡ often j (rs ++ ms) = λ j. (
    let a = often_both j rs ms in
    let b = often_those (λ j. not (listed j ms)) j ks in
    elim (cases_Bool (listed j ms)) [
      | inl e ↦ (let u = listed_often j ms e in let v = few j in let w = o j in let b' = rw e at b in omega (arith, a, b'))
      | inr e ↦ (let u = unlisted_often j ms e in let b' = rw e at b in omega (arith, a, b'))
    ]) in
    let quiet : (j : ℕ) → listed j rs ≡ true → f j ≡ [] = λ j g. (
    let b = often_those (λ j. not (listed j ms)) j ks in
    let u = listed_often j rs g in
    elim (cases_Bool (listed j ms)) [
      | inl e ↦ (let b' = rw e at b in absurd (omega arith))
      | inr e ↦ (let b' = rw e at b in h j (often_listed j ks (omega arith)) e)
    ]) in
    ap (flat_map f) (same_order num ks (rs ++ ms) same d) ∙ silent num f rs ms quiet

-- ---- by other keys

into_map : (num : ℕ → ℕ) (a : ℕ) (xs : List ℕ) → into (num a) (map num xs) ≡ map num (into_by num a xs)
into_map num a [] = refl
into_map num a (x ∷ xs) = elim (cases_Bool (leb (num a) (num x))) [
  | inl e ↦ rw e refl
  | inr e ↦ rw e (ap (λ z. num x ∷ z) (into_map num a xs))
]

-- numbers in order are the numbers of what is ordered by number
pub ascending_map : (num : ℕ → ℕ) (xs : List ℕ) → ascending (map num xs) ≡ map num (ascending_by num xs)
ascending_map num [] = refl
ascending_map num (x ∷ xs) = ap (into (num x)) (ascending_map num xs) ∙ into_map num x (ascending_by num xs)

pub flat_at : {X : Type 0} (num : ℕ → ℕ) (f : ℕ → List X) (xs : List ℕ) → flat_map f (map num xs) ≡ flat_map (λ a. f (num a)) xs
flat_at num f [] = refl
flat_at num f (x ∷ xs) = ap (λ z. f (num x) ++ z) (flat_at num f xs)

pub flat_same : {X : Type 0} (f g : ℕ → List X) (xs : List ℕ) → ((j : ℕ) → listed j xs ≡ true → f j ≡ g j) → flat_map f xs ≡ flat_map g xs
flat_same f g [] h = refl
flat_same f g (x ∷ xs) h = rw (h x (or_left (x == x) (listed x xs) (eq-eqb x x refl)), flat_same f g xs (λ j i. h j (or_right (x == j) (listed j xs) i))) refl
