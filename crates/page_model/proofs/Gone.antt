-- Nodes that are gone, and what stands below them.
use Rattle.std.proofs.Common.{◌≡◌, ℕ, ◌≤◌, ◌==◌, Bool, true, false, ◌||◌, sym, ap, ◌∙◌, eqb-true, inl, inr}
use Rattle.std.proofs.lemmas.Bool.{cases_Bool, false≢true, or_cases, or_left, or_right}
use Rattle.page_model.specs.Forest.{Forest, none, node, has, on, tally, kids, parent, pruned}
use Rattle.page_model.specs.Labels.{Look}
use Rattle.page_model.proofs.Facts.{Knows}
use Rattle.page_model.proofs.Arrive.{later_in}
use Rattle.page_model.proofs.Tally.{has_on, parent_is}
use Rattle.page_model.proofs.Linked.{first_in, on_kids, self_on}

-- below a node that isn't kept none is
abbrev pub New : {A : Type 0} → (ℕ → Bool) → Forest A → Type 0
New keep none = Unit {0}
New keep (node m x k r) = (keep m ≡ false → (j : ℕ) → on j k ≡ true → keep j ≡ false) × New keep k × New keep r

-- a node that is gone has all below it gone
gone_below : (old new : Forest Look) → ((a : ℕ) → tally a old ≤ 1) → ((a : ℕ) → on a new ≡ true → on (parent a new) new ≡ true) → ((a : ℕ) → on a old ≡ true → on a new ≡ true → parent a old ≡ parent a new) →
    (m : ℕ) → on m old ≡ true → on m new ≡ false → (k : Forest Look) → ((j : ℕ) → has j k ≡ true → has j (kids m old) ≡ true) → Knows (λ i. kids i old) k → (j : ℕ) → on j k ≡ true → on j new ≡ false
gone_below old new once up same m u z none h kn j i = absurd (false≢true i)
gone_below old new once up same m u z (node n x k r) h kn j i =
    let hn = h n (first_in n x k r) in
    let un : on n old ≡ true = on_kids m n old (has_on n (kids m old) hn) in
    let zn : on n new ≡ false = elim (cases_Bool (on n new)) [
      | inl e ↦ (
          let a : parent n old ≡ m = parent_is m n old (once n) u hn in
          let b : parent n new ≡ m = sym (same n un e) ∙ a in
          let d : on m new ≡ true = ap (λ q. on q new) (sym b) ∙ up n e in
          absurd (false≢true (sym z ∙ d)))
      | inr e ↦ e
    ] in
    elim (or_cases (n == j) (on j k || on j r) i) [
      | inl e ↦ (let q : n ≡ j = eqb-true n j e in ap (λ a. on a new) (sym q) ∙ zn)
      | inr e ↦ elim (or_cases (on j k) (on j r) e) [
        | inl f ↦ gone_below old new once up same n un zn k (λ a b. ap (has a) kn.0 ∙ b) kn.1 j f
        | inr f ↦ gone_below old new once up same m u z r (λ a b. h a (later_in n a x k r b)) kn.2 j f
      ]
    ]

pub all_gone : (old new : Forest Look) → ((a : ℕ) → tally a old ≤ 1) → ((a : ℕ) → on a new ≡ true → on (parent a new) new ≡ true) → ((a : ℕ) → on a old ≡ true → on a new ≡ true → parent a old ≡ parent a new) → (t : Forest Look) → ((j : ℕ) → on j t ≡ true → on j old ≡ true) → Knows (λ i. kids i old) t → New (λ a. on a new) t
all_gone old new once up same none h kn = tt
all_gone old new once up same (node m x k r) h kn = (
  λ z. gone_below old new once up same m (h m (self_on m x k r)) z k (λ a b. ap (has a) kn.0 ∙ b) kn.1,
  all_gone old new once up same k (λ j e. h j (or_right (m == j) (on j k || on j r) (or_left (on j k) (on j r) e))) kn.1,
  all_gone old new once up same r (λ j e. h j (or_right (m == j) (on j k || on j r) (or_right (on j k) (on j r) e))) kn.2,
)

pub still_on : {A : Type 0} (keep : ℕ → Bool) (j : ℕ) (t : Forest A) → New keep t → on j t ≡ true → keep j ≡ true → on j (pruned keep t) ≡ true
still_on keep j none n h e = absurd (false≢true h)
still_on keep j (node m x k r) n h e = elim (cases_Bool (keep m)) [
  | inl f ↦ rw f (elim (or_cases (m == j) (on j k || on j r) h) [
    | inl c ↦ or_left (m == j) (on j (pruned keep k) || on j (pruned keep r)) c
    | inr c ↦ or_right (m == j) (on j (pruned keep k) || on j (pruned keep r)) (elim (or_cases (on j k) (on j r) c) [
      | inl d ↦ or_left (on j (pruned keep k)) (on j (pruned keep r)) (still_on keep j k n.1 d e)
      | inr d ↦ or_right (on j (pruned keep k)) (on j (pruned keep r)) (still_on keep j r n.2 d e)
    ])
  ])
  | inr f ↦ rw f (elim (or_cases (m == j) (on j k || on j r) h) [
    | inl c ↦ (let q : m ≡ j = eqb-true m j c in absurd (false≢true (sym f ∙ (ap keep q ∙ e))))
    | inr c ↦ elim (or_cases (on j k) (on j r) c) [
      | inl d ↦ absurd (false≢true (sym (n.0 f j d) ∙ e))
      | inr d ↦ still_on keep j r n.2 d e
    ]
  ])
]
