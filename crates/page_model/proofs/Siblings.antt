-- Lemmas on one list of siblings.
use Rattle.std.proofs.Common.{◌≡◌, ℕ, ◌+◌, ◌<◌, ◌==◌, true, false, ◌||◌, refl, ap, arith, eqb-true, inl, inr}
use Rattle.std.proofs.lemmas.Bool.{cases_Bool, true≢false, false≢true}
use Rattle.page_model.specs.Forest.{Forest, none, node, after, count, has, only, without, put, stands}

pub after_none : {A : Type 0} (xs : Forest A) → after xs none ≡ xs
after_none none = refl
after_none (node n x k r) = ap (node n x k) (after_none r)

pub after_assoc : {A : Type 0} (xs ys zs : Forest A) → after (after xs ys) zs ≡ after xs (after ys zs)
after_assoc none ys zs = refl
after_assoc (node n x k r) ys zs = ap (node n x k) (after_assoc r ys zs)

pub count_after : {A : Type 0} (xs ys : Forest A) → count (after xs ys) ≡ count xs + count ys
count_after none ys = omega arith
count_after (node n x k r) ys = omega (arith, count_after r ys)

pub has_after : {A : Type 0} (m : ℕ) (xs ys : Forest A) → has m (after xs ys) ≡ (has m xs || has m ys)
has_after m none ys = refl
has_after m (node n x k r) ys = elim (cases_Bool (n == m)) [ inl e ↦ rw e | inr e ↦ rw e (has_after m r ys) ]

pub put_after : {A : Type 0} (xs ys zs : Forest A) → put (count xs) ys (after xs zs) ≡ after xs (after ys zs)
put_after none ys zs = refl
put_after (node n x k r) ys zs = ap (node n x k) (put_after r ys zs)

pub stands_after : {A : Type 0} (m : ℕ) (xs ys : Forest A) → stands m (count xs) (after xs ys) ≡ stands m 0 ys
stands_after m none ys = refl
stands_after m (node n x k r) ys = stands_after m r ys

pub only_after : {A : Type 0} (m : ℕ) (xs ys : Forest A) → has m xs ≡ false → only m (after xs ys) ≡ only m ys
only_after m none ys h = refl
only_after m (node n x k r) ys h = elim (cases_Bool (n == m)) [
  | inl e ↦ absurd (true≢false (rw e at h))
  | inr e ↦ rw e (only_after m r ys (rw e at h))
]

pub without_after : {A : Type 0} (m : ℕ) (xs ys : Forest A) → has m xs ≡ false → without m (after xs ys) ≡ after xs (without m ys)
without_after m none ys h = refl
without_after m (node n x k r) ys h = elim (cases_Bool (n == m)) [
  | inl e ↦ absurd (true≢false (rw e at h))
  | inr e ↦ rw e (ap (node n x k) (without_after m r ys (rw e at h)))
]

-- where the key stands, what is taken out is one sibling
pub count_only : {A : Type 0} (m : ℕ) (xs : Forest A) → has m xs ≡ true → count (only m xs) ≡ 1
count_only m none h = absurd (false≢true h)
count_only m (node n x k r) h = elim (cases_Bool (n == m)) [
  | inl e ↦ rw e
  | inr e ↦ rw e (count_only m r (rw e at h))
]

pub has_only : {A : Type 0} (m j : ℕ) (xs : Forest A) → has m xs ≡ true → has j (only m xs) ≡ (m == j)
has_only m j none h = absurd (false≢true h)
has_only m j (node n x k r) h = elim (cases_Bool (n == m)) [
  | inl e ↦ let s : n ≡ m = eqb-true n m e in rw e (rw s (elim (cases_Bool (m == j)) [ inl d ↦ rw d | inr d ↦ rw d ]))
  | inr e ↦ rw e (has_only m j r (rw e at h))
]

-- another key stands as before
pub has_without : {A : Type 0} (m j : ℕ) (xs : Forest A) → (m == j) ≡ false → has j (without m xs) ≡ has j xs
has_without m j none d = refl
has_without m j (node n x k r) d = elim (cases_Bool (n == m)) [
  | inl e ↦ let s : n ≡ m = eqb-true n m e in rw e (rw s (rw d))
  | inr e ↦ rw e (ap (λ b. (n == j) || b) (has_without m j r d))
]

pub only_without : {A : Type 0} (m j : ℕ) (xs : Forest A) → (m == j) ≡ false → only j (without m xs) ≡ only j xs
only_without m j none d = refl
only_without m j (node n x k r) d = elim (cases_Bool (n == m)) [
  | inl e ↦ let s : n ≡ m = eqb-true n m e in rw e (rw s (rw d))
  | inr e ↦ rw e (elim (cases_Bool (n == j)) [ inl f ↦ rw f | inr f ↦ rw f (only_without m j r d) ])
]

-- where it stands first, taking it out and putting it in front changes nothing
pub front_again : {A : Type 0} (m : ℕ) (xs : Forest A) → stands m 0 xs ≡ true → after (only m xs) (without m xs) ≡ xs
front_again m none h = absurd (false≢true h)
front_again m (node n x k r) h = rw h

pub some_there : {A : Type 0} (m : ℕ) (xs : Forest A) → has m xs ≡ true → 0 < count xs
some_there m none h = absurd (false≢true h)
some_there m (node n x k r) h = omega arith
