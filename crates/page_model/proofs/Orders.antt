-- Lists of numbers in order, and places in a list.
use Rattle.std.proofs.Common.{◌≡◌, ℕ, suc, ◌<◌, ◌≤◌, ◌==◌, Bool, true, false, ◌||◌, refl, sym, ap, ◌∙◌, arith, leb, eqb-true, eq-eqb, inl, inr, List, [], ◌∷◌, ◌++◌, length}
use Rattle.std.proofs.lemmas.Bool.{cases_Bool, false≢true, true≢false, or_cases, or_left, or_right, or_parts}
use Rattle.page_model.specs.Forest.{Forest, none, node, on, tally, keys, tops}
use Rattle.page_model.specs.Edits.{into, ascending, listed}
use Rattle.page_model.proofs.Facts.{Once}
use Rattle.page_model.specs.Pages.{place_in}
use Rattle.page_model.proofs.Everywhere.{flipped}
use Rattle.page_model.proofs.Tally.{on_tally, tally_off}
use Rattle.page_model.proofs.Removals.{in_both}

-- ---- lists of keys

pub swapped : (a b c : Bool) → (a || (b || c)) ≡ (b || (a || c))
swapped true true c = refl
swapped true false c = refl
swapped false true c = refl
swapped false false c = refl

in_into : (j n : ℕ) (ms : List ℕ) → listed j (into n ms) ≡ (n == j || listed j ms)
in_into j n [] = refl
in_into j n (m ∷ ms) = elim (cases_Bool (leb n m)) [
  | inl e ↦ rw e refl
  | inr e ↦ rw e (ap (λ b. (m == j) || b) (in_into j n ms) ∙ swapped (m == j) (n == j) (listed j ms))
]

once_into : (n : ℕ) (ms : List ℕ) → listed n ms ≡ false → Once ms → Once (into n ms)
once_into n [] l o = (refl, tt)
once_into n (m ∷ ms) l o = elim (cases_Bool (leb n m)) [
  | inl e ↦ rw e (l, o)
  | inr e ↦ (
      let a = or_parts (m == n) (listed n ms) l in
      rw e (in_into m n ms ∙ (rw (flipped m n a.0, o.0) refl), once_into n ms a.1 o.1))
]

pub in_ascending : (j : ℕ) (ns : List ℕ) → listed j (ascending ns) ≡ listed j ns
in_ascending j [] = refl
in_ascending j (n ∷ ns) = in_into j n (ascending ns) ∙ ap (λ b. (n == j) || b) (in_ascending j ns)

pub once_ascending : (ns : List ℕ) → Once ns → Once (ascending ns)
once_ascending [] o = tt
once_ascending (n ∷ ns) o = once_into n (ascending ns) (in_ascending n ns ∙ o.0) (once_ascending ns o.1)

once_both : (xs ys : List ℕ) → Once xs → Once ys → ((j : ℕ) → listed j xs ≡ true → listed j ys ≡ false) → Once (xs ++ ys)
once_both [] ys ox oy h = oy
once_both (x ∷ xs) ys ox oy h = (
  in_both x xs ys ∙ (rw (ox.0, h x (or_left (x == x) (listed x xs) (eq-eqb x x refl))) refl),
  once_both xs ys ox.1 oy (λ j e. h j (or_right (x == j) (listed j xs) e)),
)

pub in_keys : {A : Type 0} (j : ℕ) (t : Forest A) → listed j (keys t) ≡ on j t
in_keys j none = refl
in_keys j (node m x k r) = ap (λ b. (m == j) || b) (in_both j (keys k) (keys r) ∙ (rw (in_keys j k, in_keys j r) refl))

pub once_keys : {A : Type 0} (t : Forest A) → ((j : ℕ) → tally j t ≤ 1) → Once (keys t)
once_keys none l = tt
once_keys (node m x k r) l =
    let here : (m == m) ≡ true = eq-eqb m m refl in
    let lm = rw here at (l m) in
    let zk : on m k ≡ false = tally_off m k (omega arith) in
    let zr : on m r ≡ false = tally_off m r (omega arith) in (
      in_both m (keys k) (keys r) ∙ (rw (in_keys m k, in_keys m r, zk, zr) refl),
      once_both (keys k) (keys r) (once_keys k (λ j. (let i = l j in omega arith))) (once_keys r (λ j. (let i = l j in omega arith)))
          (λ j e. (let i = l j in let a = on_tally j k (sym (in_keys j k) ∙ e) in in_keys j r ∙ tally_off j r (omega arith))),
    )

pub tops_on : {A : Type 0} (keep : ℕ → Bool) (j : ℕ) (t : Forest A) → listed j (tops keep t) ≡ true → on j t ≡ true
tops_on keep j none h = absurd (false≢true h)
tops_on keep j (node m x k r) h = elim (cases_Bool (keep m)) [
  | inl a ↦ (
      let h' : listed j (tops keep k ++ tops keep r) ≡ true = rw a at h in
      or_right (m == j) (on j k || on j r) (elim (or_cases (listed j (tops keep k)) (listed j (tops keep r)) (sym (in_both j (tops keep k) (tops keep r)) ∙ h')) [
        | inl c ↦ or_left (on j k) (on j r) (tops_on keep j k c)
        | inr c ↦ or_right (on j k) (on j r) (tops_on keep j r c)
      ]))
  | inr a ↦ (
      let h' : (m == j || listed j (tops keep r)) ≡ true = rw a at h in
      elim (or_cases (m == j) (listed j (tops keep r)) h') [
        | inl c ↦ or_left (m == j) (on j k || on j r) c
        | inr c ↦ or_right (m == j) (on j k || on j r) (or_right (on j k) (on j r) (tops_on keep j r c))
      ])
]

not_in : (j : ℕ) (ns : List ℕ) {A : Type 0} (t : Forest A) → (listed j ns ≡ true → on j t ≡ true) → on j t ≡ false → listed j ns ≡ false
not_in j ns t h z = elim (cases_Bool (listed j ns)) [ inl e ↦ absurd (true≢false (sym (h e) ∙ z)) | inr e ↦ e ]

pub once_tops : {A : Type 0} (keep : ℕ → Bool) (t : Forest A) → ((j : ℕ) → tally j t ≤ 1) → Once (tops keep t)
once_tops keep none l = tt
once_tops keep (node m x k r) l =
    let ik = once_tops keep k (λ j. (let i = l j in omega arith)) in
    let ir = once_tops keep r (λ j. (let i = l j in omega arith)) in
    elim (cases_Bool (keep m)) [
      | inl a ↦ rw a (once_both (tops keep k) (tops keep r) ik ir (λ j e. (let i = l j in let u = on_tally j k (tops_on keep j k e) in not_in j (tops keep r) r (tops_on keep j r) (tally_off j r (omega arith)))))
      | inr a ↦ (
          let here : (m == m) ≡ true = eq-eqb m m refl in
          let lm = rw here at (l m) in
          rw a (not_in m (tops keep r) r (tops_on keep m r) (tally_off m r (omega arith)), ir))
    ]

-- ---- places in a list

pub place_below : (a : ℕ) (bs : List ℕ) → listed a bs ≡ true → place_in a bs < length bs
place_below a [] h = absurd (false≢true h)
place_below a (b ∷ bs) h = elim (cases_Bool (b == a)) [
  | inl e ↦ rw e (omega arith)
  | inr e ↦ (let i = place_below a bs (rw e at h) in rw e (omega (arith, i)))
]

pub place_apart : (a b : ℕ) (cs : List ℕ) → listed a cs ≡ true → listed b cs ≡ true → place_in a cs ≡ place_in b cs → a ≡ b
place_apart a b [] h g e = absurd (false≢true h)
place_apart a b (c ∷ cs) h g e = elim (cases_Bool (c == a)) [
  | inl f ↦ elim (cases_Bool (c == b)) [
    | inl i ↦ sym (eqb-true c a f) ∙ eqb-true c b i
    | inr i ↦ (let q : 0 ≡ suc (place_in b cs) = rw (f, i) at e in absurd (omega arith))
  ]
  | inr f ↦ elim (cases_Bool (c == b)) [
    | inl i ↦ (let q : suc (place_in a cs) ≡ 0 = rw (f, i) at e in absurd (omega arith))
    | inr i ↦ (let q : suc (place_in a cs) ≡ suc (place_in b cs) = rw (f, i) at e in place_apart a b cs (rw f at h) (rw i at g) (omega arith))
  ]
]
