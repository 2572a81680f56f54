-- A page from scratch has the numbers of a page that is mounted.
use Rattle.std.proofs.Common.{◌≡◌, ℕ, suc, ◌+◌, ◌≤◌, ◌==◌, Bool, true, false, refl, sym, ap, ◌∙◌, arith, eq-eqb, inl, inr, List, [], ◌∷◌, ◌++◌, append-nil, length}
use Rattle.std.proofs.lemmas.Bool.{cases_Bool, false≢true}
use Rattle.page_model.specs.Edits.{listed}
use Rattle.page_model.specs.Forest.{Forest, none, node, keys, numbered, on, tally}
use Rattle.page_model.specs.Labels.{Root, Look, shown}
use Rattle.page_model.specs.Pages.{bare, carried, new_order, newcomers, page_shape, place_in, renumbered, tree_of}
use Rattle.page_model.proofs.Shared.{on_tally, by_number_with, in_keys}
use Rattle.tpl_model.specs.Laws.{ScratchLaw}
use Rattle.tpl_model.specs.Shapes.{shown_lines}
use Rattle.tpl_model.specs.Sources.{in_order}
use Rattle.tpl_model.proofs.Shaped.{shape_law}

-- ---- places in document order

place_left : (a : ℕ) (xs ys : List ℕ) → listed a xs ≡ true → place_in a (xs ++ ys) ≡ place_in a xs
place_left a [] ys h = absurd (false≢true h)
place_left a (x ∷ xs) ys h = elim (cases_Bool (x == a)) [
  | inl e ↦ rw e refl
  | inr e ↦ (let i = place_left a xs ys (rw e at h) in rw (e, i) refl)
]

place_right : (a : ℕ) (xs ys : List ℕ) → listed a xs ≡ false → place_in a (xs ++ ys) ≡ length xs + place_in a ys
place_right a [] ys h = omega arith
place_right a (x ∷ xs) ys h = elim (cases_Bool (x == a)) [
  | inl e ↦ absurd (false≢true (sym (rw e at h)))
  | inr e ↦ (let i = place_right a xs ys (rw e at h) in rw e (omega arith))
]

-- no key stands twice
record Once {A : Type 0} (t : Forest A) : Type 0 where
  once : (a : ℕ) → tally a t ≤ 1

once_kids : {A : Type 0} (m : ℕ) (x : A) (k r : Forest A) → Once (node m x k r) → Once k
once_kids m x k r h = record { once = λ a. (let i = h.once a in omega arith) }

once_rest : {A : Type 0} (m : ℕ) (x : A) (k r : Forest A) → Once (node m x k r) → Once r
once_rest m x k r h = record { once = λ a. (let i = h.once a in omega arith) }

-- a key below a node isn't the node's, and one beside it is neither that nor below it
apart_below : {A : Type 0} (a m : ℕ) (x : A) (k r : Forest A) → Once (node m x k r) → on a k ≡ true → (m == a) ≡ false
apart_below a m x k r h i = elim (cases_Bool (m == a)) [
  | inl e ↦ (let u = rw e at (h.once a) in let v = on_tally a k i in absurd (omega arith))
  | inr e ↦ e
]

apart_beside : {A : Type 0} (a m : ℕ) (x : A) (k r : Forest A) → Once (node m x k r) → on a r ≡ true →
    ((m == a) ≡ false) × (on a k ≡ false)
apart_beside a m x k r h i = (
  elim (cases_Bool (m == a)) [
    | inl e ↦ (let u = rw e at (h.once a) in let v = on_tally a r i in absurd (omega arith))
    | inr e ↦ e
  ],
  elim (cases_Bool (on a k)) [
    | inl e ↦ (let u = h.once a in let v = on_tally a r i in let w = on_tally a k e in absurd (omega arith))
    | inr e ↦ e
  ],
)

-- numbers by places in document order are numbers in order
by_places : {A : Type 0} (number : ℕ → ℕ) (n : ℕ) (t : Forest A) → Once t → ((a : ℕ) → on a t ≡ true →
    number a ≡ n + place_in a (keys t)) →
    numbered number t ≡ in_order n t
by_places number n none h p = refl
by_places number n (node m x k r) h p =
    let self = eq-eqb m m refl in
    let own : number m ≡ n = p m (rw self refl) ∙ rw self (omega arith) in
    let below : numbered number k ≡ in_order (suc n) k = by_places number (suc n) k (once_kids m x k r h)
    (λ a i. (
    let e = apart_below a m x k r h i in
    let s = place_left a (keys k) (keys r) (in_keys a k ∙ i) in
    let q = p a (rw (e, i) refl) in
    q ∙ rw (e, s) (omega arith))) in
    let beside : numbered number r ≡ in_order (suc n + length (keys k)) r = by_places number (suc n + length (keys k)) r
    (once_rest m x k r h)
    (λ a i. (
    let e = apart_beside a m x k r h i in
    let s = place_right a (keys k) (keys r) (in_keys a k ∙ e.1) in
    let q = p a (rw (e.0, e.1, i) refl) in
    q ∙ rw (e.0, s) (omega arith))) in
    rw (own, below, beside) refl

-- ---- the first page

pub newcomers_all : (kept : ℕ → Bool) (t : Forest Look) → ((a : ℕ) → on a t ≡ true → kept a ≡ false) → newcomers kept t ≡ keys t
newcomers_all kept none h = refl
newcomers_all kept (node m x k r) h =
    let self = eq-eqb m m refl in
    let e = h m (rw self refl) in
    let i = newcomers_all kept r (λ a p. h a (elim (cases_Bool (m == a)) [
      | inl u ↦ rw u refl
      | inr u ↦ elim (cases_Bool
          (on a k)) [ inl v ↦ rw (u, v) refl | inr v ↦ rw (u, v) p ]
    ])) in
    rw (e, i) refl

-- an address below the root wasn't on the bare page
fresh : (t : Forest Look) → Once (node 0 Root t none) → (a : ℕ) → on a t ≡ true → on a (page_shape bare) ≡ false
fresh t h a i = (let e = apart_below a 0 Root t none h i in rw e refl)

bare_order : (t : Forest Look) → Once (node 0 Root t none) → new_order bare (node 0 Root t none) ≡ keys t
bare_order t h = append-nil (newcomers (λ a. on a (page_shape bare)) t) ∙ newcomers_all (λ a. on a (page_shape bare)) t (fresh t h)

first_page : (t : Forest Look) → Once (node 0 Root t none) →
    tree_of (renumbered bare (node 0 Root t none)) ≡ node 0 Root (shown (in_order 1 t)) none
first_page t h =
    let number = carried bare (node 0 Root t none) in
    let o = by_places number 1 t (once_kids 0 Root t none h) (λ a i. (let e = fresh t h a i in let s = bare_order t h in
    rw (e, s) refl)) in
    ap (λ u. node 0 Root (shown u) none) (by_number_with number t ∙ o)

pub scratch_law : ScratchLaw
scratch_law lines evaluate f g = first_page (shown_lines evaluate lines).nodes (record { once = (shape_law lines evaluate f g).once })
