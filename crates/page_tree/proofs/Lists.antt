-- Lists of numbers and of attributes, with one put in or taken out.
use Rattle.std.proofs.Common.{◌≡◌, ℕ, zero, suc, ◌+◌, ◌<◌, ◌≤◌, ◌==◌, true, refl, sym, ap, ◌∙◌, arith, append_assoc, append-nil, inl, inr, List, [], ◌∷◌, ◌++◌, length, take, drop, Option, Some, None}
use Rattle.std.specs.Str.{bytes_eq}
use Rattle.std.proofs.lemmas.Bool.{cases_Bool, false≢true}
use Rattle.page_model.specs.Edits.{listed, put_at, taken}
use Rattle.page_model.specs.Pages.{place_in}
use Rattle.page_model.specs.Replay.{others, put_in}
use Rattle.page_tree.specs.Queries.{after_one, place_named}

pub put_is : (i n : ℕ) (ms : List ℕ) → i ≤ length ms → take i ms ++ n ∷ drop i ms ≡ put_at i n ms
put_is zero n ms h = refl
put_is (suc i) n [] h = absurd (omega arith)
put_is (suc i) n (m ∷ ms) h = ap (λ zs. m ∷ zs) (put_is i n ms (omega arith))

pub put_in_is : {V : Type 0} (i : ℕ) (a : List ℕ × V) (xs : List (List ℕ × V)) → i ≤ length xs → take i xs ++ a ∷ drop i xs ≡ put_in i a xs
put_in_is zero a xs h = refl
put_in_is (suc i) a [] h = absurd (omega arith)
put_in_is (suc i) a (b ∷ xs) h = ap (λ zs. b ∷ zs) (put_in_is i a xs (omega arith))

pub taken_is : (n : ℕ) (ms : List ℕ) → place_in n ms < length ms → take (place_in n ms) ms ++ drop (suc (place_in n ms)) ms ≡ taken n ms
taken_is n [] h = absurd (omega arith)
taken_is n (m ∷ ms) h = elim (cases_Bool (m == n)) [
  | inl e ↦ rw e refl
  | inr e ↦ (let h' = rw e at h in rw e (ap (λ zs. m ∷ zs) (taken_is n ms (omega (arith, h')))))
]

pub taken_none : (n : ℕ) (ms : List ℕ) → length ms ≤ place_in n ms → ms ≡ taken n ms
taken_none n [] h = refl
taken_none n (m ∷ ms) h = elim (cases_Bool (m == n)) [
  | inl e ↦ (let h' = rw e at h in absurd (omega (arith, h')))
  | inr e ↦ (let h' = rw e at h in rw e (ap (λ zs. m ∷ zs) (taken_none n ms (omega (arith, h')))))
]

pub length_taken : (n : ℕ) (ms : List ℕ) → listed n ms ≡ true → suc (length (taken n ms)) ≡ length ms
length_taken n [] h = absurd (false≢true h)
length_taken n (m ∷ ms) h = elim (cases_Bool (m == n)) [
  | inl e ↦ rw e refl
  | inr e ↦ (let i = length_taken n ms (rw e at h) in rw e (ap suc i))
]

-- a place that stands so much further
abbrev pub after_many : ℕ → Option ℕ → Option ℕ
after_many i None = None
after_many i (Some j) = Some (i + j)

pub one_further : (i : ℕ) (o : Option ℕ) → after_many i (after_one o) ≡ after_many (i + 1) o
one_further i None = refl
one_further i (Some j) = ap Some (omega arith)

none_after : (o : Option ℕ) → after_one o ≡ None → o ≡ None
none_after None h = refl
none_after (Some j) h = absurd (cc)

some_after : (o : Option ℕ) (i : ℕ) → after_one o ≡ Some i → (j : ℕ) × (o ≡ Some j) × (suc j ≡ i)
some_after None i h = absurd (cc)
some_after (Some j) i h = (j, refl, (let e : Some (suc j) ≡ Some i = h in cc))

pub others_at : (name : List ℕ) (xs : List (List ℕ × List ℕ)) (i : ℕ) → place_named name xs ≡ Some i → (i < length xs) × (take i xs ++ drop (suc i) xs ≡ others name xs)
others_at name [] i h = absurd (cc)
others_at name (a ∷ xs) i h = elim (cases_Bool (bytes_eq a.0 name)) [
  | inl e ↦ (
      let q : Some 0 ≡ Some i = rw e at h in
      let z : 0 ≡ i = cc in
      rw (e, ← z) ((omega arith), refl))
  | inr e ↦ (
      let q : after_one (place_named name xs) ≡ Some i = rw e at h in
      let j = some_after (place_named name xs) i q in
      let r = others_at name xs j.0 j.1 in
      rw (e, ← j.2) ((let z = r.0 in omega arith), ap (λ zs. a ∷ zs) r.1))
]

pub others_none : (name : List ℕ) (xs : List (List ℕ × List ℕ)) → place_named name xs ≡ None → xs ≡ others name xs
others_none name [] h = refl
others_none name (a ∷ xs) h = elim (cases_Bool (bytes_eq a.0 name)) [
  | inl e ↦ (let q : Some 0 ≡ None = rw e at h in absurd (cc))
  | inr e ↦ (let q : after_one (place_named name xs) ≡ None = rw e at h in rw e (ap (λ zs. a ∷ zs) (others_none name xs (none_after (place_named name xs) q))))
]

-- one piece more at the end of an output
pub step_out : {A : Type 0} (o o' a b w z : List A) → o' ≡ o ++ a → w ≡ a ++ b → o ++ w ≡ z → o' ++ b ≡ z
step_out o o' a b w z e f g = ap (λ zs. zs ++ b) e ∙ (append_assoc o a b ∙ (ap (λ zs. o ++ zs) (sym f) ∙ g))

-- the end of an output
pub last_out : {A : Type 0} (o w z : List A) → w ≡ [] → o ++ w ≡ z → o ≡ z
last_out o w z e g = sym (append-nil o) ∙ (ap (λ zs. o ++ zs) (sym e) ∙ g)

pub no_items : {A : Type 0} (xs : List A) (n : ℕ) → n ≡ length xs → n ≡ 0 → xs ≡ []
no_items [] n e z = refl
no_items (x ∷ xs) n e z = absurd (omega (arith, e, z))
