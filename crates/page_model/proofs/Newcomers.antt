-- The order of the new addresses has them all.
use Rattle.std.proofs.Common.{◌≡◌, ℕ, ◌==◌, Bool, true, false, ◌||◌, refl, ap, ◌∙◌, leb, if◌then◌else◌, eqb-true, eq-eqb, inl, inr, List, [], ◌∷◌, sym}
use Rattle.std.specs.List.{flat_map}
use Rattle.std.proofs.lemmas.Bool.{cases_Bool, false≢true, or_cases, or_left, or_right}
use Rattle.page_model.specs.Forest.{Forest, none, node, on, keys, kids}
use Rattle.page_model.specs.Pages.{into_by, ascending_by, newcomers, those}
use Rattle.page_model.specs.Edits.{listed}
use Rattle.page_model.proofs.Facts.{Knows}
use Rattle.page_model.proofs.Removals.{in_both}
use Rattle.page_model.proofs.Orders.{in_keys, swapped}

pub in_into_by : (num : ℕ → ℕ) (j n : ℕ) (ms : List ℕ) → listed j (into_by num n ms) ≡ (n == j || listed j ms)
in_into_by num j n [] = refl
in_into_by num j n (m ∷ ms) = elim (cases_Bool (leb (num n) (num m))) [
  | inl e ↦ rw e refl
  | inr e ↦ rw e (ap (λ b. (m == j) || b) (in_into_by num j n ms) ∙ swapped (m == j) (n == j) (listed j ms))
]

pub in_ascending_by : (num : ℕ → ℕ) (j : ℕ) (ns : List ℕ) → listed j (ascending_by num ns) ≡ listed j ns
in_ascending_by num j [] = refl
in_ascending_by num j (n ∷ ns) = in_into_by num j n (ascending_by num ns) ∙ ap (λ b. (n == j) || b) (in_ascending_by num j ns)

pub from_those : (test : ℕ → Bool) (j : ℕ) (ns : List ℕ) → listed j (those test ns) ≡ true → (listed j ns ≡ true) × (test j ≡ true)
from_those test j [] h = absurd (false≢true h)
from_those test j (n ∷ ns) h = elim (cases_Bool (test n)) [
  | inl e ↦ elim (cases_Bool (n == j)) [
    | inl f ↦ (let q : n ≡ j = eqb-true n j f in (rw f refl, ap test (sym q) ∙ e))
    | inr f ↦ (let i = from_those test j ns (rw (e, f) at h) in (rw f i.0, i.1))
  ]
  | inr e ↦ (let i = from_those test j ns (rw e at h) in (or_right (n == j) (listed j ns) i.0, i.1))
]

pub to_those : (test : ℕ → Bool) (j : ℕ) (ns : List ℕ) → listed j ns ≡ true → test j ≡ true → listed j (those test ns) ≡ true
to_those test j [] h e = absurd (false≢true h)
to_those test j (n ∷ ns) h e = elim (cases_Bool (n == j)) [
  | inl f ↦ (let q : n ≡ j = eqb-true n j f in let g : test n ≡ true = ap test q ∙ e in rw g (or_left (n == j) (listed j (those test ns)) f))
  | inr f ↦ (
      let i = to_those test j ns (rw f at h) e in
      elim (cases_Bool (test n)) [ inl g ↦ rw g (or_right (n == j) (listed j (those test ns)) i) | inr g ↦ rw g i ])
]

pub in_flat : (f : ℕ → List ℕ) (j p : ℕ) (ps : List ℕ) → listed p ps ≡ true → listed j (f p) ≡ true → listed j (flat_map f ps) ≡ true
in_flat f j p [] h e = absurd (false≢true h)
in_flat f j p (q ∷ ps) h e = in_both j (f q) (flat_map f ps) ∙ elim (cases_Bool (q == p)) [
  | inl c ↦ (let s : q ≡ p = eqb-true q p c in or_left (listed j (f q)) (listed j (flat_map f ps)) (ap (λ i. listed j (f i)) s ∙ e))
  | inr c ↦ or_right (listed j (f q)) (listed j (flat_map f ps)) (in_flat f j p ps (rw c at h) e)
]

pub covered : (kept : ℕ → Bool) {A : Type 0} (new : Forest A) (order : List ℕ) → ((p : ℕ) → on p new ≡ true → kept p ≡ true → (j : ℕ) → listed j (newcomers kept (kids p new)) ≡ true → listed j order ≡ true) → (ns : Forest A) → Knows (λ i. kids i new) ns → ((j : ℕ) → on j ns ≡ true → on j new ≡ true) → ((j : ℕ) → listed j (newcomers kept ns) ≡ true → listed j order ≡ true) → (a : ℕ) → on a ns ≡ true → kept a ≡ false → listed a order ≡ true
covered kept new order h none kn w g a o z = absurd (false≢true o)
covered kept new order h (node m x k r) kn w g a o z =
    let later : (j : ℕ) → listed j (newcomers kept r) ≡ true → listed j order ≡ true = λ j e. g j (in_both j (if kept m then [] else m ∷ keys k) (newcomers kept r) ∙ or_right (listed j (if kept m then [] else m ∷ keys k)) (listed j (newcomers kept r)) e) in
    let here : (j : ℕ) → kept m ≡ false → (m == j || on j k) ≡ true → listed j order ≡ true = λ j c e. (
    let i : listed j (if kept m then [] else m ∷ keys k) ≡ true = rw (c, in_keys j k) e in
    g j (in_both j (if kept m then [] else m ∷ keys k) (newcomers kept r) ∙ or_left (listed j (if kept m then [] else m ∷ keys k)) (listed j (newcomers kept r)) i)) in
    let wk : (j : ℕ) → on j k ≡ true → on j new ≡ true = λ j e. w j (or_right (m == j) (on j k || on j r) (or_left (on j k) (on j r) e)) in
    let wr : (j : ℕ) → on j r ≡ true → on j new ≡ true = λ j e. w j (or_right (m == j) (on j k || on j r) (or_right (on j k) (on j r) e)) in
    elim (or_cases (m == a) (on a k || on a r) o) [
      | inl e ↦ (let q : m ≡ a = eqb-true m a e in here a (ap kept q ∙ z) (or_left (m == a) (on a k) e))
      | inr e ↦ elim (or_cases (on a k) (on a r) e) [
        | inl f ↦ elim (cases_Bool (kept m)) [
          | inl c ↦ covered kept new order h k kn.1 wk (λ j i. h m (w m (or_left (m == m) (on m k || on m r) (eq-eqb m m refl))) c j (ap (λ t. listed j (newcomers kept t)) kn.0 ∙ i)) a f z
          | inr c ↦ here a c (or_right (m == a) (on a k) f)
        ]
        | inr f ↦ covered kept new order h r kn.2 wr later a f z
      ]
    ]
