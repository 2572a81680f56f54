-- Marks of nodes whose next children are those that they have are left out.
use Rattle.std.proofs.Common.{◌≡◌, ℕ, suc, ◌≤◌, ◌==◌, Bool, true, false, cond, if◌then◌else◌, Some, None, List, [], ◌∷◌, ◌++◌, length, map, nat_eq, refl, sym, ap, subst, ◌∙◌, arith, eqb-true, eq-eqb, inl, inr}
use lib.Pointwise.{pointwise}
use Rattle.std.specs.List.{AllByRecursion}
use Rattle.std.proofs.lemmas.Bool.{cases_Bool, false≢true, true≢false, or_cases, and_parts}
use Rattle.std.proofs.lemmas.Bool.Decides.{Decides-eqb}
use Rattle.std.proofs.lemmas.Slice.Eq.{slice_eq-Decides}
use Rattle.page_model.specs.Edits.{listed, siblings}
use Rattle.page_model.specs.Forest.{Forest, none, node, kids, on}
use Rattle.page_model.specs.Labels.{Kind, Look}
use Rattle.page_model.specs.Pages.{IsPage, NumberedPage, number_of, page_shape, tree_of}
use Rattle.page_model.proofs.Shared.{or_left, or_right}
use Rattle.tpl_drawn.specs.Comparison.{Each, IsTouched, known_of}
use Rattle.tpl_model.specs.NextPage.Marks.{Covers}
use Rattle.tpl_model.proofs.Shared.{child_on, children_read, listed_often, often_listed}
use Rattle.tpl_drawn.specs.Marks.{children_in, next_of}
use Rattle.tpl_model.specs.ShownNodes.Shapes.{Marked, Next, comes, stays}
use Rattle.tpl_model.specs.PageUpdates.Differences.{SameChildren, often}
use Rattle.tpl_live.specs.Plans.{keeps_children, moving, numbers_of, numbers_staying}
use Rattle.tpl_live.proofs.Orders.{Rising, address_in}

-- ---- the same children

-- no more children stay than there are
few_stay : (cs : List Next) → length (numbers_staying cs) ≤ length cs
few_stay [] = omega arith
few_stay (stays n ∷ cs) = (let h = few_stay cs in omega (arith, h))
few_stay (comes t ∷ cs) = (let h = few_stay cs in omega (arith, h))

-- where all of them stay, each stands on the page, and their numbers are those of the page
record AllStay (p : NumberedPage) (t : Forest Look) (cs : List Next) : Type 0 where
  numbers : numbers_staying cs ≡ map (number_of p) (siblings t)
  there : (b : ℕ) → listed b (siblings t) ≡ true → on b (page_shape p) ≡ true

one_stays : (p : NumberedPage) (a : ℕ) (x : Look) (k r : Forest Look) (cs : List Next) (b : Bool) → on a (page_shape p) ≡ b →
    (length (numbers_staying cs) ≡ length cs → AllStay p r cs) →
    length (numbers_staying (next_of (cond b (Some (number_of p a)) None) (node a x k none) ∷ cs))
    ≡ length (next_of (cond b (Some (number_of p a)) None) (node a x k none) ∷ cs) →
    AllStay p (node a x k r) (next_of (cond b (Some (number_of p a)) None) (node a x k none) ∷ cs)
one_stays p a x k r cs true e later l =
    let h = later (omega (arith, l)) in
    record {
      numbers = ap (λ ns. number_of p a ∷ ns) h.numbers;
      there = λ b i. elim (or_cases (a == b) (listed b (siblings r)) i) [
        | inl f ↦ ap (λ z. on z (page_shape p)) (sym (eqb-true a b f)) ∙ e
        | inr f ↦ h.there b f
      ];
    }
one_stays p a x k r cs false e later l = absurd (let few = few_stay cs in omega (arith, few, l))

all_stay : (p : NumberedPage) (t : Forest Look) → length (numbers_staying (children_in (known_of p) t)) ≡ length (children_in (known_of p) t) →
    AllStay p t (children_in (known_of p) t)
all_stay p none l = record { numbers = refl; there = λ b i. absurd (false≢true i) }
all_stay p (node a x k r) l = one_stays p a x k r (children_in (known_of p) r) (on a (page_shape p)) refl (all_stay p r) l

abbrev first_number : List ℕ → ℕ
first_number [] = 0
first_number (n ∷ ns) = n

abbrev other_numbers : List ℕ → List ℕ
other_numbers [] = []
other_numbers (n ∷ ns) = ns

-- nodes of a page that have the same numbers are the same
same_numbered : (p : NumberedPage) → IsPage p → (xs ys : List ℕ) → ((b : ℕ) → listed b xs ≡ true → on b (page_shape p) ≡ true) →
    ((b : ℕ) → listed b ys ≡ true → on b (page_shape p) ≡ true) → map (number_of p) xs ≡ map (number_of p) ys → xs ≡ ys
same_numbered p q [] [] f g e = refl
same_numbered p q [] (y ∷ ys) f g e = absurd (let l : 0 ≡ suc (length (map (number_of p) ys)) = ap length e in omega (arith, l))
same_numbered p q (x ∷ xs) [] f g e = absurd (let l : suc (length (map (number_of p) xs)) ≡ 0 = ap length e in omega (arith, l))
same_numbered p q (x ∷ xs) (y ∷ ys) f g e =
    let one : x ≡ y = q.distinct x y (f x (or_left (x == x) (listed x xs) (self x))) (g y (or_left (y == y) (listed y ys) (self y))) (ap first_number e) in
    let others : xs ≡ ys = same_numbered p q xs ys (λ b i. f b (or_right (x == b) (listed b xs) i)) (λ b i. g b (or_right (y == b) (listed b ys) i))
    (ap other_numbers e) in
    (λ i. one i ∷ others i)
  where
    self : (n : ℕ) → (n == n) ≡ true
    self n = eq-eqb n n refl

-- a node whose next children are those that it has
kept_children : (p : NumberedPage) (shape : Forest Look) (a : ℕ) (m : Marked) → IsPage p → IsTouched p shape a m → keeps_children (tree_of p) m ≡ true →
    SameChildren (page_shape p) shape a
kept_children p shape a m q at h =
    let ns = numbers_staying m.children in
    let olds = siblings (kids m.number (tree_of p)) in
    let many : length ns ≡ length m.children = eqb-true (length ns) (length m.children) (and_parts (length ns == length m.children) (pointwise nat_eq ns olds) h).0 in
    let same : ns ≡ olds = (slice_eq-Decides Decides-eqb ns olds _ refl).0 (and_parts (length ns == length m.children) (pointwise nat_eq ns olds) h).1 in
    let next : AllStay p (kids a shape) (children_in (known_of p) (kids a shape)) =
    all_stay p (kids a shape) (subst (λ z. length (numbers_staying z) ≡ length z) at.children many) in
    same_numbered p q (siblings (kids a (page_shape p))) (siblings (kids a shape)) (λ b i. child_on a b (page_shape p) i) next.there
    (sym (children_read p a q at.here) ∙ (ap (λ z. siblings (kids z (tree_of p))) (sym at.number) ∙ (sym same ∙ (ap numbers_staying at.children ∙ next.numbers))))

-- ---- the marks that are left

-- what is known of each mark
pub each_left : (p : NumberedPage) (Is : ℕ → Marked → Type 0) (tree : Forest Kind) (ms : List Marked) → Each Is (map (address_in p) ms) ms →
    Each Is (map (address_in p) (moving tree ms)) (moving tree ms)
each_left p Is tree [] h = tt
each_left p Is tree (m ∷ ms) h = go (keeps_children tree m) (each_left p Is tree ms h.1)
  where
    go : (b : Bool) → Each Is (map (address_in p) (moving tree ms)) (moving tree ms) →
        Each Is (map (address_in p) ((if b then [] else m ∷ []) ++ moving tree ms)) ((if b then [] else m ∷ []) ++ moving tree ms)
    go true later = later
    go false later = (h.0, later)

few_left : (f : Marked → ℕ) (tree : Forest Kind) (ms : List Marked) (j : ℕ) → often j (map f (moving tree ms)) ≤ often j (map f ms)
few_left f tree [] j = omega arith
few_left f tree (m ∷ ms) j = go (keeps_children tree m) (few_left f tree ms j)
  where
    go : (b : Bool) → often j (map f (moving tree ms)) ≤ often j (map f ms) →
        often j (map f ((if b then [] else m ∷ []) ++ moving tree ms)) ≤ often j (map f (m ∷ ms))
    go true later = omega (arith, later)
    go false later = omega (arith, later)

-- a node whose mark is left out
left_out : (p : NumberedPage) (Is : ℕ → Marked → Type 0) (Same : ℕ → Type 0) (tree : Forest Kind) →
    ((a : ℕ) (m : Marked) → Is a m → keeps_children tree m ≡ true → Same a) → (ms : List Marked) → Each Is (map (address_in p) ms) ms → (j : ℕ) →
    listed j (map (address_in p) ms) ≡ true → listed j (map (address_in p) (moving tree ms)) ≡ false → Same j
left_out p Is Same tree same [] h j i o = absurd (false≢true i)
left_out p Is Same tree same (m ∷ ms) h j i o = go (keeps_children tree m) refl o (left_out p Is Same tree same ms h.1 j)
  where
    go : (b : Bool) → keeps_children tree m ≡ b → listed j (map (address_in p) ((if b then [] else m ∷ []) ++ moving tree ms)) ≡ false →
        (listed j (map (address_in p) ms) ≡ true → listed j (map (address_in p) (moving tree ms)) ≡ false → Same j) → Same j
    go true e o later = elim (or_cases (address_in p m == j) (listed j (map (address_in p) ms)) i) [
      | inl f ↦ subst Same (eqb-true (address_in p m) j f) (same (address_in p m) m h.0 e)
      | inr f ↦ later f o
    ]
    go false e o later = elim (or_cases (address_in p m == j) (listed j (map (address_in p) ms)) i) [
      | inl f ↦ absurd (true≢false (sym (or_left (address_in p m == j) (listed j (map (address_in p) (moving tree ms))) f) ∙ o))
      | inr f ↦ later f (elim (cases_Bool (listed j (map (address_in p) (moving tree ms)))) [
        | inl g ↦ absurd (true≢false (sym (or_right (address_in p m == j) (listed j (map (address_in p) (moving tree ms))) g) ∙ o))
        | inr g ↦ g
      ])
    ]

-- what stands on both pages and isn't marked has the children that it had
pub covers_left : (p : NumberedPage) (shape : Forest Look) (ms : List Marked) → IsPage p → Each (IsTouched p shape) (map (address_in p) ms) ms →
    Covers (page_shape p) shape (SameChildren (page_shape p) shape) (map (address_in p) ms) →
    Covers (page_shape p) shape (SameChildren (page_shape p) shape) (map (address_in p) (moving (tree_of p) ms))
covers_left p shape ms q each c = record {
  few = λ j. (let f = c.few j in let l = few_left (address_in p) (tree_of p) ms j in omega (arith, f, l));
  there = λ j h. c.there j (let o = listed_often j (map (address_in p) (moving (tree_of p) ms)) h in let l = few_left (address_in p) (tree_of p) ms j in often_listed j (map (address_in p) ms) (omega (arith, o, l)));
  rest = λ j n o h. elim (cases_Bool (listed j (map (address_in p) ms))) [
    | inl f ↦ left_out p (IsTouched p shape) (SameChildren (page_shape p) shape) (tree_of p) (λ a m is keeps. kept_children p shape a m q is keeps) ms each j f h
    | inr f ↦ c.rest j n o f
  ];
}

-- their numbers rise
over_left : (n : ℕ) (tree : Forest Kind) (ms : List Marked) → AllByRecursion (λ m. n ≤ m) (numbers_of ms) → AllByRecursion (λ m. n ≤ m) (numbers_of (moving tree ms))
over_left n tree [] h = tt
over_left n tree (m ∷ ms) h = go (keeps_children tree m) (over_left n tree ms h.1)
  where
    go : (b : Bool) → AllByRecursion (λ k. n ≤ k) (numbers_of (moving tree ms)) →
        AllByRecursion (λ k. n ≤ k) (numbers_of ((if b then [] else m ∷ []) ++ moving tree ms))
    go true later = later
    go false later = (h.0, later)

pub rising_left : (tree : Forest Kind) (ms : List Marked) → Rising (numbers_of ms) → Rising (numbers_of (moving tree ms))
rising_left tree [] h = tt
rising_left tree (m ∷ ms) h = go (keeps_children tree m) (over_left m.number tree ms h.0) (rising_left tree ms h.1)
  where
    go : (b : Bool) → AllByRecursion (λ k. m.number ≤ k) (numbers_of (moving tree ms)) → Rising (numbers_of (moving tree ms)) →
        Rising (numbers_of ((if b then [] else m ∷ []) ++ moving tree ms))
    go true over later = later
    go false over later = (over, later)
