-- The numbers by address of the next page: those that were known, and those of what came.
use Rattle.std.proofs.Common.{◌≡◌, ℕ, suc, ◌+◌, ◌<◌, ◌≤◌, ◌==◌, ◌||◌, Bool, true, false, cond, Option, Some, None, List, [], ◌∷◌, length, map, refl, sym, ap, subst, ◌∙◌, arith, inl, inr}
use Rattle.std.specs.List.{flat_map}
use Rattle.std.proofs.lemmas.Bool.{cases_Bool, false≢true, true≢false, or_cases}
use Rattle.page_model.specs.Edits.{listed}
use Rattle.page_model.specs.Forest.{Forest, none, node, keys, kids, numbered, on}
use Rattle.page_model.specs.Labels.{Kind, Look, shown}
use Rattle.page_model.specs.Pages.{IsPage, IsShape, NumberedPage, SameOrigin, ascending_by, new_order, newcomers, number_of, page_shape, place_in, renumbered, those, tree_of}
use Rattle.page_model.proofs.Shared.{kept_number, on_kids, or_left, or_right, page_after, shape_after, unused_number, on_shown, on_numbered}
use Rattle.tpl_drawn.specs.Comparison.{known_of}
use Rattle.tpl_model.proofs.Shared.{by_number_is, in_keys, listed_often, on_num, order_law, same_number, in_both}
use Rattle.tpl_drawn.specs.Marks.{Knows}
use Rattle.tpl_drawn.specs.Addresses.{if_there, noted_from}
use Rattle.tpl_model.specs.ShownNodes.Addresses.{address_of, same_address}
use Rattle.tpl_model.specs.declared.shown.Address.{Address}
use Rattle.tpl_model.specs.PageUpdates.Differences.{often}
use Rattle.tpl_live.specs.Pages.{AreKnown}

-- ---- of a page

on_tree : (p : NumberedPage) (a : ℕ) → IsPage p → on a (page_shape p) ≡ true → on (number_of p a) (tree_of p) ≡ true
on_tree p a q o =
    ap (λ z. on (number_of p a) (shown z)) (by_number_is p q.once)
    ∙ (on_shown (number_of p a) (numbered (number_of p) (page_shape p)) ∙ (on_num (number_of p) a (page_shape p) (λ b h e. q.distinct a b o h e) ∙ o))

-- the node of a number
pub on_page : (p : NumberedPage) (n : ℕ) → IsPage p → on n (tree_of p) ≡ true → (a : ℕ) × (on a (page_shape p) ≡ true) × (number_of p a ≡ n)
on_page p n q h =
    on_numbered (number_of p) n (page_shape p)
    (sym (on_shown n (numbered (number_of p) (page_shape p))) ∙ (ap (λ z. on n (shown z)) (sym (by_number_is p q.once)) ∙ h))

-- ---- numbers of nodes that are there

there : (t : Forest Kind) (n : ℕ) → on n t ≡ true → if_there t (Some n) ≡ Some n
there t n h = ap (λ z. cond z (Some n) None) h

not_there : (t : Forest Kind) (n : ℕ) → on n t ≡ false → if_there t (Some n) ≡ None
not_there t n h = ap (λ z. cond z (Some n) None) h

-- a number that is there was noted
was_there : (t : Forest Kind) (o : Option ℕ) (n : ℕ) → if_there t o ≡ Some n → o ≡ Some n
was_there t None n h = h
was_there t (Some m) n h = go (on m t) h
  where
    go : (b : Bool) → cond b (Some m) None ≡ Some n → Some m ≡ Some n
    go true h = h
    go false h = cc

some_number : (m n : ℕ) → Some m ≡ Some n → m ≡ n
some_number m n e = cc

-- what is known of a node of the page
known_on : (p : NumberedPage) (a : ℕ) → on a (page_shape p) ≡ true → known_of p a ≡ Some (number_of p a)
known_on p a o = ap (λ z. cond z (Some (number_of p a)) None) o

-- and of any other address
known_off : (p : NumberedPage) (a : ℕ) → on a (page_shape p) ≡ false → known_of p a ≡ None
known_off p a o = ap (λ z. cond z (Some (number_of p a)) None) o

-- a number that is known is that of a node
from_known : (p : NumberedPage) (a n : ℕ) → known_of p a ≡ Some n → (on a (page_shape p) ≡ true) × (number_of p a ≡ n)
from_known p a n e = elim (cases_Bool (on a (page_shape p))) [
  | inl o ↦ (o, some_number (number_of p a) n (sym (known_on p a o) ∙ e))
  | inr o ↦ (let z : None ≡ Some n = sym (known_off p a o) ∙ e in absurd (cc))
]

-- numbers that are read off a page are known
pub known_numbers : (p : NumberedPage) (tree : Forest Kind) (number : Address → Option ℕ) → IsPage p → tree ≡ tree_of p → Knows number (known_of p) →
    AreKnown p tree number
known_numbers p tree number q stands k = record {
  knows = λ x. ap (if_there tree) (k x) ∙ here x;
  given = λ x n e. (let f = from_known p (address_of x) n (sym (k x) ∙ e) in subst (λ z. z < p.next) f.1 (q.below (address_of x) f.0));
}
  where
    here : (x : Address) → if_there tree (known_of p (address_of x)) ≡ known_of p (address_of x)
    here x = elim (cases_Bool (on (address_of x) (page_shape p))) [
      | inl o ↦ ap (if_there tree) (known_on p (address_of x) o)
          ∙ (there tree (number_of p (address_of x)) (ap (on (number_of p (address_of x))) stands ∙ on_tree p (address_of x) q o)
          ∙ sym (known_on p (address_of x) o))
      | inr o ↦ ap (if_there tree) (known_off p (address_of x) o) ∙ sym (known_off p (address_of x) o)
    ]

-- ---- under the next numbers

not_listed : (j : ℕ) (ns : List ℕ) → often j ns ≤ 0 → listed j ns ≡ false
not_listed j ns l = elim (cases_Bool (listed j ns)) [ inl e ↦ (let m = listed_often j ns e in absurd (omega (arith, l, m))) | inr e ↦ e ]

-- one more place
next_place : (n k : ℕ) → (n + 1) + k ≡ n + suc k
next_place n k = omega arith

-- where each address comes once, it has the number of its place
noted_at : (xs : List Address) (n : ℕ) (number : Address → Option ℕ) (x : Address) → often (address_of x) (map address_of xs) ≤ 1 →
    noted_from xs n number x
    ≡ cond (listed (address_of x) (map address_of xs)) (Some (n + place_in (address_of x) (map address_of xs))) (number x)
noted_at [] n number x once = refl
noted_at (y ∷ ys) n number x once = elim (cases_Bool (address_of y == address_of x)) [
  | inl e ↦ (
      let o = rw e at once in
      let later : listed (address_of x) (map address_of ys) ≡ false = not_listed (address_of x) (map address_of ys) (omega (arith, o)) in
      let zero_more : n + 0 ≡ n = omega arith in
      noted_at ys (n + 1) (λ b. cond (same_address y b) (Some n) (number b)) x (omega (arith, o))
      ∙ (ap (λ z. cond z (Some ((n + 1) + place_in (address_of x) (map address_of ys))) (cond (same_address y x) (Some n) (number x))) later
      ∙ (ap (λ z. cond z (Some n) (number x)) (same_number y x ∙ e) ∙ rw e (ap Some (sym zero_more)))))
  | inr e ↦ (
      let o = rw e at once in
      noted_at ys (n + 1) (λ b. cond (same_address y b) (Some n) (number b)) x (omega (arith, o))
      ∙ (ap (λ z. cond (listed (address_of x) (map address_of ys)) (Some ((n + 1) + place_in (address_of x) (map address_of ys))) (cond z (Some n) (number x)))
      (same_number y x ∙ e)
      ∙ rw e (ap (λ z. cond (listed (address_of x) (map address_of ys)) (Some z) (number x)) (next_place n (place_in (address_of x) (map address_of ys))))))
]

-- ---- what comes

-- newcomers are below
newcomer_on : (kept : ℕ → Bool) (a : ℕ) (t : Forest Look) → listed a (newcomers kept t) ≡ true → on a t ≡ true
newcomer_on kept a none h = absurd (false≢true h)
newcomer_on kept a (node m x k r) h =
    elim (or_cases (listed a (cond (kept m) [] (m ∷ keys k))) (listed a (newcomers kept r)) (sym (in_both a (cond (kept m) [] (m ∷ keys k)) (newcomers kept r)) ∙ h)) [
      | inl e ↦ first (kept m) e
      | inr e ↦ or_right (m == a) (on a k || on a r) (or_right (on a k) (on a r) (newcomer_on kept a r e))
    ]
  where
    first : (b : Bool) → listed a (cond b [] (m ∷ keys k)) ≡ true → ((m == a) || (on a k || on a r)) ≡ true
    first true h = absurd (false≢true h)
    first false h = elim (or_cases (m == a) (listed a (keys k)) h) [
      | inl e ↦ or_left (m == a) (on a k || on a r) e
      | inr e ↦ or_right (m == a) (on a k || on a r) (or_left (on a k) (on a r) (sym (in_keys a k) ∙ e))
    ]

-- the new addresses are on the next page
new_on : (p : NumberedPage) (shape : Forest Look) (a : ℕ) → listed a (new_order p shape) ≡ true → on a shape ≡ true
new_on p shape a h = below (ascending_by (number_of p) (those (λ b. on b shape) (keys (page_shape p)))) h
  where
    below : (ps : List ℕ) → listed a (flat_map (λ b. newcomers (λ c. on c (page_shape p)) (kids b shape)) ps) ≡ true → on a shape ≡ true
    below [] h = absurd (false≢true h)
    below (b ∷ bs) h =
        let first = newcomers (λ c. on c (page_shape p)) (kids b shape) in
        let later = flat_map (λ b. newcomers (λ c. on c (page_shape p)) (kids b shape)) bs in
        elim (or_cases (listed a first) (listed a later) (sym (in_both a first later) ∙ h)) [
          | inl e ↦ on_kids b a shape (newcomer_on (λ c. on c (page_shape p)) a (kids b shape) e)
          | inr e ↦ below bs e
        ]

-- what has a place among them is listed
short_listed : (a : ℕ) (xs : List ℕ) → place_in a xs < length xs → listed a xs ≡ true
short_listed a [] l = absurd (omega (arith, l))
short_listed a (b ∷ bs) l = elim (cases_Bool (b == a)) [
  | inl e ↦ or_left (b == a) (listed a bs) e
  | inr e ↦ (let m = rw e at l in or_right (b == a) (listed a bs) (short_listed a bs (omega (arith, m))))
]

-- ---- of the next page

-- A page, its next shape, the addresses that came under the next numbers, and the numbers that were known.
record IsFollowed (p : NumberedPage) (shape : Forest Look) (coming : List Address) (number : Address → Option ℕ) : Type 0 where
  page : IsPage p
  formed : IsShape shape
  origin : SameOrigin (page_shape p) shape
  order : map address_of coming ≡ new_order p shape
  known : AreKnown p (tree_of p) number

-- the number that an address has after the new ones were noted
noted_so : (p : NumberedPage) (shape : Forest Look) (coming : List Address) (number : Address → Option ℕ) → IsFollowed p shape coming number → (x : Address) →
    noted_from coming p.next number x
    ≡ cond (listed (address_of x) (new_order p shape)) (Some (p.next + place_in (address_of x) (new_order p shape))) (number x)
noted_so p shape coming number h x =
    let a = address_of x in
    let once = (order_law p shape h.page h.formed h.origin).once a in
    noted_at coming p.next number x (subst (λ z. often a z ≤ 1) (sym h.order) once)
    ∙ ap (λ z. cond (listed a z) (Some (p.next + place_in a z)) (number x)) h.order

-- a new address that is on the next page
pub listed_new : (p : NumberedPage) (shape : Forest Look) (a : ℕ) → IsPage p → IsShape shape → on a (page_shape p) ≡ false → on a shape ≡ true →
    listed a (new_order p shape) ≡ true
listed_new p shape a q s e o =
    let u = unused_number p shape a e o in
    let z = (page_after p shape q s).below a (ap (on a) (shape_after p shape) ∙ o) in
    short_listed a (new_order p shape) (omega (arith, u, z))

-- a number that was given and whose node isn't of both pages isn't on the next tree
gone_number : (p : NumberedPage) (shape : Forest Look) (coming : List Address) (number : Address → Option ℕ) → IsFollowed p shape coming number → (x : Address) (n : ℕ) →
    number x ≡ Some n → on (address_of x) shape ≡ false → on n (tree_of (renumbered p shape)) ≡ false
gone_number p shape coming number h x n e off = elim (cases_Bool (on n (tree_of (renumbered p shape)))) [
  | inl o ↦ (
      let r = renumbered p shape in
      let w = page_after p shape h.page h.formed in
      let b = on_page r n w o in
      let there_next : on b.0 shape ≡ true = sym (ap (on b.0) (shape_after p shape)) ∙ b.1 in
      elim (cases_Bool (on b.0 (page_shape p))) [
        | inl f ↦ (
            let same : number_of p b.0 ≡ n = sym (kept_number p shape b.0 f there_next) ∙ b.2 in
            let here : on n (tree_of p) ≡ true = subst (λ z. on z (tree_of p) ≡ true) same (on_tree p b.0 h.page f) in
            let k = from_known p (address_of x) n (sym (h.known.knows x) ∙ (ap (if_there (tree_of p)) e ∙ there (tree_of p) n here)) in
            let one : address_of x ≡ b.0 = h.page.distinct (address_of x) b.0 k.0 f (k.1 ∙ sym same) in
            absurd (true≢false (sym there_next ∙ (ap (λ z. on z shape) (sym one) ∙ off))))
        | inr f ↦ (
            let u = unused_number p shape b.0 f there_next in
            let v = b.2 in
            let g = h.known.given x n e in
            absurd (omega (arith, u, v, g)))
      ])
  | inr o ↦ o
]

known_next : (p : NumberedPage) (shape : Forest Look) (coming : List Address) (number : Address → Option ℕ) → IsFollowed p shape coming number → (x : Address)
    (b : Bool) → listed (address_of x) (new_order p shape) ≡ b →
    if_there (tree_of (renumbered p shape)) (cond b (Some (p.next + place_in (address_of x) (new_order p shape))) (number x))
    ≡ known_of (renumbered p shape) (address_of x)
known_next p shape coming number h x true l =
    let r = renumbered p shape in
    let a = address_of x in
    let w = page_after p shape h.page h.formed in
    let new : on a (page_shape p) ≡ false = (order_law p shape h.page h.formed h.origin).new a l in
    let here : on a shape ≡ true = new_on p shape a l in
    let next : on a (page_shape r) ≡ true = ap (on a) (shape_after p shape) ∙ here in
    let is : number_of r a ≡ p.next + place_in a (new_order p shape) = unused_number p shape a new here in
    ap (λ z. if_there (tree_of r) (Some z)) (sym is) ∙ (there (tree_of r) (number_of r a) (on_tree r a w next) ∙ sym (known_on r a next))
known_next p shape coming number h x false l =
    let r = renumbered p shape in
    let a = address_of x in
    let w = page_after p shape h.page h.formed in
    elim (cases_Bool (on a shape)) [
      | inl o ↦ (
          let next : on a (page_shape r) ≡ true = ap (on a) (shape_after p shape) ∙ o in
          let before : on a (page_shape p) ≡ true = elim (cases_Bool (on a (page_shape p))) [
            | inl f ↦ f
            | inr f ↦ absurd (true≢false (sym (listed_new p shape a h.page h.formed f o) ∙ l))
          ] in
          let known : number x ≡ Some (number_of p a) = was_there (tree_of p) (number x) (number_of p a) (h.known.knows x ∙ known_on p a before) in
          ap (if_there (tree_of r)) (known ∙ ap Some (sym (kept_number p shape a before o)))
          ∙ (there (tree_of r) (number_of r a) (on_tree r a w next) ∙ sym (known_on r a next)))
      | inr o ↦ gone (number x) refl o ∙ sym (known_off r a (ap (on a) (shape_after p shape) ∙ o))
    ]
  where
    gone : (n : Option ℕ) → number x ≡ n → on (address_of x) shape ≡ false → if_there (tree_of (renumbered p shape)) (number x) ≡ None
    gone None e o = ap (if_there (tree_of (renumbered p shape))) e
    gone (Some n) e o = ap (if_there (tree_of (renumbered p shape))) e ∙ not_there (tree_of (renumbered p shape)) n (gone_number p shape coming number h x n e o)

given_next : (p : NumberedPage) (shape : Forest Look) (coming : List Address) (number : Address → Option ℕ) → IsFollowed p shape coming number → (x : Address)
    (n : ℕ) (b : Bool) → listed (address_of x) (new_order p shape) ≡ b →
    cond b (Some (p.next + place_in (address_of x) (new_order p shape))) (number x) ≡ Some n → n < (renumbered p shape).next
given_next p shape coming number h x n true l e =
    let a = address_of x in
    let new : on a (page_shape p) ≡ false = (order_law p shape h.page h.formed h.origin).new a l in
    let here : on a shape ≡ true = new_on p shape a l in
    let is : number_of (renumbered p shape) a ≡ p.next + place_in a (new_order p shape) = unused_number p shape a new here in
    let z = (page_after p shape h.page h.formed).below a (ap (on a) (shape_after p shape) ∙ here) in
    subst (λ m. m < (renumbered p shape).next) (is ∙ some_number (p.next + place_in a (new_order p shape)) n e) z
given_next p shape coming number h x n false l e =
    let g = h.known.given x n e in
    omega (arith, g)

-- the numbers that were known and the new ones are those of the next page
pub follows : (p : NumberedPage) (shape : Forest Look) (coming : List Address) (number : Address → Option ℕ) → IsPage p → IsShape shape →
    SameOrigin (page_shape p) shape → map address_of coming ≡ new_order p shape → AreKnown p (tree_of p) number →
    AreKnown (renumbered p shape) (tree_of (renumbered p shape)) (noted_from coming p.next number)
follows p shape coming number q s so order known =
    let h : IsFollowed p shape coming number = record { page = q; formed = s; origin = so; order = order; known = known } in
    record {
      knows = λ x.
          ap (if_there (tree_of (renumbered p shape))) (noted_so p shape coming number h x)
          ∙ known_next p shape coming number h x (listed (address_of x) (new_order p shape)) refl;
      given = λ x n e.
          given_next p shape coming number h x n (listed (address_of x) (new_order p shape)) refl (sym (noted_so p shape coming number h x) ∙ e);
    }
