-- Numbers that stand in their order: none of them moves.
use Rattle.std.proofs.Common.{◌≡◌, ℕ, suc, ◌==◌, ◌&&◌, ◌||◌, Bool, true, false, ltb, refl, sym, ap, ◌∙◌, eqb-true, eq-eqb, nat_eq, List, [], ◌∷◌, length, inl, inr}
use Rattle.std.proofs.lemmas.Bool.{cases_Bool, true≢false, false≢true}
use Rattle.std.specs.List.{IsDistinct}
use Rattle.keyed_each.specs.declared.places.RowStep.{RowStep}
use Rattle.keyed_each.specs.declared.places.RowStep.TheVariants.{Keep, Insert}
use Rattle.keyed_each.specs.Keys.{numbers_decide}
use Rattle.keyed_each.specs.Steps.{kept, listed, steps_between}
use Rattle.keyed_each.specs.Queue.{judged}
use Rattle.keyed_each.specs.Standing.{behind, below, stand_among, stand_from}
use Rattle.keyed_each.proofs.Distinct.{Apart, apart}
use Rattle.keyed_each.proofs.Leads.{steps_judged}

both : (a b : Bool) → (a && b) ≡ true → (a ≡ true) × (b ≡ true)
both true b h = (refl, h)
both false b h = absurd (false≢true h)

-- one more is one of those with another before them
later : (x y : ℕ) (xs : List ℕ) → listed nat_eq y xs ≡ true → listed nat_eq y (x ∷ xs) ≡ true
later x y xs h = elim (cases_Bool (x == y)) [ inl e ↦ rw e refl | inr e ↦ rw e h ]

-- a number that isn't one of these differs from each of them
differs : (x y : ℕ) (xs : List ℕ) → listed nat_eq x xs ≡ false → listed nat_eq y xs ≡ true → (x == y) ≡ false
differs x y xs n h = elim (cases_Bool (x == y)) [
  | inl e ↦ absurd (true≢false (sym h ∙ (sym (ap (λ z. listed nat_eq z xs) (eqb-true x y e)) ∙ n)))
  | inr e ↦ e
]

-- a number below n is among those below n where it is one of them all
still_below : (n x : ℕ) (ms : List ℕ) → ltb x n ≡ true → listed nat_eq x ms ≡ listed nat_eq x (below n ms)
still_below n x [] h = refl
still_below n x (m ∷ ms) h = elim (cases_Bool (ltb m n)) [
  | inl e ↦ rw e (ap (λ b. (m == x) || b) (still_below n x ms h))
  | inr e ↦ elim (cases_Bool (m == x)) [
    | inl f ↦ absurd (true≢false (sym h ∙ (sym (ap (λ z. ltb z n) (eqb-true m x f)) ∙ e)))
    | inr f ↦ rw (e, f) (still_below n x ms h)
  ]
]

-- none comes to those below n
none_below : (n x : ℕ) (ms : List ℕ) → listed nat_eq x ms ≡ false → listed nat_eq x (below n ms) ≡ false
none_below n x [] h = refl
none_below n x (m ∷ ms) h = elim (cases_Bool (m == x)) [
  | inl f ↦ absurd (true≢false (rw f at h))
  | inr f ↦ elim (cases_Bool (ltb m n)) [
    | inl e ↦ rw (e, f) (none_below n x ms (rw f at h))
    | inr e ↦ rw e (none_below n x ms (rw f at h))
  ]
]

-- all others are below n
all_below : (n y : ℕ) (ms xs : List ℕ) → stand_among n ms xs ≡ true → listed nat_eq y xs ≡ true → ltb y n ≡ true
all_below n y ms [] s h = absurd (false≢true h)
all_below n y ms (x ∷ xs) s h =
    let b = both (ltb x n) (stand_among n (behind x ms) xs) s in
    elim (cases_Bool (x == y)) [
      | inl e ↦ sym (ap (λ z. ltb z n) (eqb-true x y e)) ∙ b.0
      | inr e ↦ all_below n y (behind x ms) xs b.1 (rw e at h)
    ]

-- each of those that stand is one of the others
one_of : (n y : ℕ) (ms xs : List ℕ) → stand_among n ms xs ≡ true → listed nat_eq y ms ≡ true → listed nat_eq y xs ≡ true
one_of n y [] xs s h = absurd (false≢true h)
one_of n y (m ∷ ms) [] s h = absurd (false≢true s)
one_of n y (m ∷ ms) (x ∷ xs) s h =
    let b = both (ltb x n) (stand_among n (behind x (m ∷ ms)) xs) s in
    elim (cases_Bool (x == y)) [
      | inl e ↦ rw e refl
      | inr e ↦ elim (cases_Bool (m == x)) [
        | inl f ↦ (
            let g : (m == y) ≡ false = ap (λ z. z == y) (eqb-true m x f) ∙ e in
            rw e (one_of n y ms xs (rw f at b.1) (rw g at h)))
        | inr f ↦ rw e (one_of n y (m ∷ ms) xs (rw f at b.1) h)
      ]
    ]

-- those of the others that are among the new ones are those that stand
kept_is : (n : ℕ) (news ms xs : List ℕ) → Apart nat_eq xs → stand_among n ms xs ≡ true →
    ((y : ℕ) → listed nat_eq y xs ≡ true → listed nat_eq y news ≡ listed nat_eq y ms) → kept nat_eq news xs ≡ ms
kept_is n news [] [] a s h = refl
kept_is n news (m ∷ ms) [] a s h = absurd (false≢true s)
kept_is n news [] (x ∷ xs) a s h =
    let b = both (ltb x n) (stand_among n [] xs) s in
    let self : (x == x) ≡ true = eq-eqb x x refl in
    let none : listed nat_eq x news ≡ false = h x (rw self refl) in
    rw none (kept_is n news [] xs a.1 b.1 (λ y i. h y (later x y xs i)))
kept_is n news (m ∷ ms) (x ∷ xs) a s h =
    let b = both (ltb x n) (stand_among n (behind x (m ∷ ms)) xs) s in
    let self : (x == x) ≡ true = eq-eqb x x refl in
    elim (cases_Bool (m == x)) [
      | inl f ↦ (
          let same : m ≡ x = eqb-true m x f in
          let there : listed nat_eq x news ≡ true = h x (rw self refl) ∙ (rw f refl) in
          let rest = kept_is n news ms xs a.1 (rw f at b.1) (λ y i. (
          let g : (m == y) ≡ false = ap (λ z. z == y) same ∙ differs x y xs a.0 i in
          h y (later x y xs i) ∙ (rw g refl))) in
          rw there (ap (λ z. z ∷ kept nat_eq news xs) (sym same) ∙ ap (λ z. m ∷ z) rest))
      | inr f ↦ (
          let s' : stand_among n (m ∷ ms) xs ≡ true = rw f at b.1 in
          let none : listed nat_eq x (m ∷ ms) ≡ false = elim (cases_Bool (listed nat_eq x (m ∷ ms))) [
            | inl i ↦ absurd (true≢false (sym (one_of n x (m ∷ ms) xs s' i) ∙ a.0))
            | inr i ↦ i
          ] in
          rw (h x (rw self refl) ∙ none) (kept_is n news (m ∷ ms) xs a.1 s' (λ y i. h y (later x y xs i))))
    ]

-- where all that waits stands first, each number that stands is kept, and each other one comes
stand_judged : (n i : ℕ) (old ks : List ℕ) → Apart nat_eq ks → stand_from n i ks ≡ judged nat_eq old i (below n ks) ks
stand_judged n i old [] a = refl
stand_judged n i old (k ∷ ks) a =
    let self : (k == k) ≡ true = eq-eqb k k refl in
    elim (cases_Bool (ltb k n)) [
      | inl e ↦ rw e (rw self (ap (λ z. Keep ∷ z) (stand_judged n (suc i) old ks a.1)))
      | inr e ↦ (
          let none : listed nat_eq k (below n ks) ≡ false = none_below n k ks a.0 in
          rw e (rw none (ap (λ z. Insert i ∷ z) (stand_judged n (suc i) old ks a.1))))
    ]

-- a step for each number
pub many_stand : (n i : ℕ) (ks : List ℕ) → length (stand_from n i ks) ≡ length ks
many_stand n i [] = refl
many_stand n i (k ∷ ks) = ap suc (many_stand n (suc i) ks)

-- so the steps between old and new numbers are these
pub steps_stand : (n : ℕ) (olds news kept_ones : List ℕ) (steps : List RowStep) → IsDistinct nat_eq olds → IsDistinct nat_eq news →
    kept_ones ≡ below n news → true ≡ stand_among n kept_ones olds → steps ≡ stand_from n 0 news → steps ≡ steps_between nat_eq olds news
steps_stand n olds news kept_ones steps od nd k s t =
    let ao = apart nat_eq numbers_decide olds od in
    let an = apart nat_eq numbers_decide news nd in
    let s' : stand_among n (below n news) olds ≡ true = ap (λ z. stand_among n z olds) (sym k) ∙ sym s in
    let e : kept nat_eq news olds ≡ below n news =
    kept_is n news (below n news) olds ao s' (λ y i. still_below n y news (all_below n y (below n news) olds s' i)) in
    t
    ∙ (stand_judged n 0 olds news an
    ∙ (ap (λ z. judged nat_eq olds 0 z news) (sym e) ∙ steps_judged nat_eq numbers_decide olds news ao an))
