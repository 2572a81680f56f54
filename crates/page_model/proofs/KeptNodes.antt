-- What the kept nodes say, one after the other, gives the new tree.
use Rattle.std.proofs.Common.{◌≡◌, ℕ, ◌≤◌, ◌==◌, Bool, true, false, refl, sym, ap, ◌∙◌, arith, if◌then◌else◌, eqb-true, eq-eqb, ◌⊎◌, inl, inr, List, [], ◌∷◌}
use Rattle.std.specs.List.{flat_map}
use Rattle.std.proofs.lemmas.Bool.{cases_Bool, false≢true, true≢false, or_left, or_right}
use Rattle.page_model.specs.Labels.{Root, Kind}
use Rattle.page_model.specs.Replay.{Op, Done, replay}
use Rattle.page_model.specs.Forest.{Forest, none, node, on, tally, label_in, relabelled}
use Rattle.page_model.specs.Edits.{listed}
use Rattle.page_model.proofs.Facts.{as_was, Once, Labelled}
use Rattle.page_model.proofs.Everywhere.{not_same}
use Rattle.page_model.proofs.Removals.{same_test}
use Rattle.page_model.proofs.Told.{relabelled_off}
use Rattle.page_model.proofs.Parents.{replay_more}

off_new : {A : Type 0} (kept : ℕ → Bool) (n : ℕ) (k : Forest A) → kept n ≡ true → ((j : ℕ) → on j k ≡ true → kept j ≡ false) → on n k ≡ false
off_new kept n k e h = elim (cases_Bool (on n k)) [ inl c ↦ absurd (true≢false (sym e ∙ h n c)) | inr c ↦ c ]

on_as_was : {A : Type 0} (kept : ℕ → Bool) (f : ℕ → A) (n : ℕ) (t : Forest A) → on n (as_was kept f t) ≡ on n t
on_as_was kept f n none = refl
on_as_was kept f n (node m x k r) = elim (cases_Bool (kept m)) [
  | inl e ↦ rw (e, on_as_was kept f n k, on_as_was kept f n r) refl
  | inr e ↦ rw (e, on_as_was kept f n r) refl
]

one_text : {A : Type 0} (kept : ℕ → Bool) (f final : ℕ → A) (n : ℕ) (t : A) (xs : Forest A) → kept n ≡ true → Labelled kept final xs → relabelled n t (as_was kept f xs) ≡ as_was kept (λ m. if m == n then t else f m) xs
one_text kept f final n t none e h = refl
one_text kept f final n t (node m x k r) e h =
    let ir = one_text kept f final n t r e h.2 in
    elim (cases_Bool (kept m)) [
      | inl a ↦ (let ik = one_text kept f final n t k e (h.0 a).1 in rw (a, ik, ir) refl)
      | inr a ↦ (
          let z = off_new kept n k e (h.1 a) in
          let q : (m == n) ≡ false = elim (cases_Bool (m == n)) [ inl c ↦ (let s : m ≡ n = eqb-true m n c in absurd (true≢false (sym e ∙ ap kept (sym s) ∙ a))) | inr c ↦ c ] in
          rw (a, q, relabelled_off n t k z, ir) refl)
    ]

all_labelled : {A : Type 0} (kept : ℕ → Bool) (f : ℕ → A) (xs : Forest A) → Labelled kept f xs → as_was kept f xs ≡ xs
all_labelled kept f none h = refl
all_labelled kept f (node m x k r) h = elim (cases_Bool (kept m)) [
  | inl a ↦ rw (a, (h.0 a).0, all_labelled kept f k (h.0 a).1, all_labelled kept f r h.2) refl
  | inr a ↦ rw (a, all_labelled kept f r h.2) refl
]

-- the labels once those of `ns` are told
abbrev said : {A : Type 0} → (ℕ → A) → List ℕ → (ℕ → A) → ℕ → A
said new [] f = f
said new (n ∷ ns) f = said new ns (λ m. if m == n then new n else f m)

tally_as_was : {A : Type 0} (kept : ℕ → Bool) (f : ℕ → A) (n : ℕ) (t : Forest A) → tally n (as_was kept f t) ≡ tally n t
tally_as_was kept f n none = refl
tally_as_was kept f n (node m x k r) = elim (cases_Bool (kept m)) [
  | inl e ↦ rw (e, tally_as_was kept f n k, tally_as_was kept f n r) refl
  | inr e ↦ rw (e, tally_as_was kept f n r) refl
]

label_as_was : {A : Type 0} (d : A) (kept : ℕ → Bool) (f final : ℕ → A) (n : ℕ) (t : Forest A) → kept n ≡ true → Labelled kept final t → on n t ≡ true → label_in d n (as_was kept f t) ≡ f n
label_as_was d kept f final n none e h o = absurd (false≢true o)
label_as_was d kept f final n (node m x k r) e h o = elim (cases_Bool (m == n)) [
  | inl a ↦ (let q : m ≡ n = eqb-true m n a in let b : kept m ≡ true = ap kept q ∙ e in rw (a, b) (ap f q))
  | inr a ↦ elim (cases_Bool (kept m)) [
    | inl b ↦ elim (cases_Bool (on n k)) [
      | inl c ↦ rw (a, b, on_as_was kept f n k, c) (label_as_was d kept f final n k e (h.0 b).1 c)
      | inr c ↦ rw (a, b, on_as_was kept f n k, c) (label_as_was d kept f final n r e h.2 (rw (a, c) at o))
    ]
    | inr b ↦ (let c = off_new kept n k e (h.1 b) in rw (a, b, c) (label_as_was d kept f final n r e h.2 (rw (a, c) at o)))
  ]
]

-- what a node says leads from its old label to its new one, on each tree where it stands once
abbrev pub Says : (ℕ → List Op) → (ℕ → Kind) → (ℕ → Kind) → ℕ → Type 0
Says tell old new n = (t : Forest Kind) → on n t ≡ true → tally n t ≤ 1 → label_in Root n t ≡ old n → replay (tell n) t ≡ Done (relabelled n (new n) t)

told_from : (tell : ℕ → List Op) (kept : ℕ → Bool) (old f new : ℕ → Kind) (ns : List ℕ) (xs : Forest Kind) → Once ns → ((n : ℕ) → listed n ns ≡ true → (kept n ≡ true) × (on n xs ≡ true) × (f n ≡ old n) × Says tell old new n) → ((j : ℕ) → tally j xs ≤ 1) → Labelled kept new xs → replay (flat_map tell ns) (as_was kept f xs) ≡ Done (as_was kept (said new ns f) xs)
told_from tell kept old f new [] xs o h s l = refl
told_from tell kept old f new (n ∷ ns) xs o h s l =
    let y = h n (or_left (n == n) (listed n ns) (eq-eqb n n refl)) in
    let g = λ (m : ℕ). if m == n then new n else f m in
    let rest = told_from tell kept old g new ns xs o.1
    (λ m i. (let z = h m (or_right (n == m) (listed m ns) i) in let d = same_test m n ∙ not_same n m ns o.0 i in (z.0, z.1, rw d z.2, z.3))) s l in
    let t = as_was kept f xs in
    let w = on_as_was kept f n xs ∙ y.1 in
    let first = y.3 t w (let i = s n in let j = tally_as_was kept f n xs in omega arith) (label_as_was Root kept f new n xs y.0 l y.1 ∙ y.2) in
    let e = one_text kept f new n (new n) xs y.0 l in
    replay_more (tell n) (flat_map tell ns) t (relabelled n (new n) t) first ∙ (ap (replay (flat_map tell ns)) e ∙ rest)

said_new : {A : Type 0} (new : ℕ → A) (ns : List ℕ) (f : ℕ → A) (m : ℕ) → ((f m ≡ new m) ⊎ (listed m ns ≡ true)) → said new ns f m ≡ new m
said_new new [] f m h = elim h [ inl e ↦ e | inr e ↦ absurd (false≢true e) ]
said_new new (n ∷ ns) f m h = said_new new ns (λ j. if j == n then new n else f j) m (elim (cases_Bool (m == n)) [
  | inl c ↦ (let q : m ≡ n = eqb-true m n c in inl (rw c (ap new (sym q))))
  | inr c ↦ elim h [ inl e ↦ inl (rw c e) | inr e ↦ inr (let d : (n == m) ≡ false = same_test n m ∙ c in rw d at e) ]
])

labelled_same : {A : Type 0} (kept : ℕ → Bool) (f g : ℕ → A) (xs : Forest A) → ((m : ℕ) → kept m ≡ true → f m ≡ g m) → Labelled kept g xs → Labelled kept f xs
labelled_same kept f g none e h = tt
labelled_same kept f g (node m x k r) e h = (λ a. (e m a ∙ (h.0 a).0, labelled_same kept f g k e (h.0 a).1), h.1, labelled_same kept f g r e h.2)

pub told_all : (tell : ℕ → List Op) (kept : ℕ → Bool) (old new : ℕ → Kind) (ns : List ℕ) (xs : Forest Kind) → Once ns → ((n : ℕ) → listed n ns ≡ true → (kept n ≡ true) × (on n xs ≡ true) × Says tell old new n) → ((n : ℕ) → kept n ≡ true → listed n ns ≡ true) → ((j : ℕ) → tally j xs ≤ 1) → Labelled kept new xs → replay (flat_map tell ns) (as_was kept old xs) ≡ Done xs
told_all tell kept old new ns xs o h all s l =
    told_from tell kept old old new ns xs o (λ n i. ((h n i).0, (h n i).1, refl, (h n i).2)) s l
    ∙ ap Done (all_labelled kept (said new ns old) xs (labelled_same kept (said new ns old) new xs (λ m e. said_new new ns old m (inr (all m e))) l))
