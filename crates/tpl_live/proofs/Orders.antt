-- Marks by ascending numbers.
use Rattle.std.proofs.Common.{◌≡◌, ℕ, zero, suc, ◌<◌, ◌≤◌, ◌==◌, leb, true, cond, List, [], ◌∷◌, length, map, slice_index_or, refl, sym, ap, subst, ◌∙◌, arith, eqb-true, eq-eqb, inl, inr}
use Rattle.std.specs.List.{All, AllByRecursion}
use Rattle.std.specs.List.Sorted.{IsNonDecreasingBy, IsPermutation}
use Rattle.std.proofs.lemmas.Bool.{cases_Bool, false≢true, le-leb, true≢false, or_cases}
use Rattle.std.proofs.lemmas.List.Recursion.{is_sum_by}
use Rattle.std.proofs.lemmas.List.Sorted.{All-permutation, IsPermutation-map, sum_by-IsPermutation}
use Rattle.page_model.specs.Edits.{listed}
use Rattle.page_model.specs.Forest.{Forest, keys, on, one}
use Rattle.page_model.specs.Labels.{Look}
use Rattle.page_model.specs.Pages.{IsPage, NumberedPage, ascending_by, into_by, number_of, page_shape}
use Rattle.page_model.proofs.Shared.{or_left, or_right}
use Rattle.tpl_model.specs.NextPage.Marks.{Covers, Sees}
use Rattle.tpl_model.proofs.Shared.{in_keys, listed_often, often_listed}
use Rattle.tpl_model.specs.ShownNodes.Shapes.{Marked}
use Rattle.tpl_live.specs.Plans.{numbers_of}
use Rattle.tpl_model.specs.PageUpdates.Differences.{often}
use Rattle.tpl_drawn.specs.Comparison.{Each, IsRestated, IsTouched}

-- ---- all of a list

to_all : {X : Type 0} (P : X → Type 0) (xs : List X) → AllByRecursion P xs → All P xs
to_all P [] h k d l = absurd (omega (arith, l))
to_all P (x ∷ xs) h zero d l = h.0
to_all P (x ∷ xs) h (suc k) d l = to_all P xs h.1 k d (omega (arith, l))

from_all : {X : Type 0} (P : X → Type 0) (xs : List X) → All P xs → AllByRecursion P xs
from_all P [] h = tt
from_all P (x ∷ xs) h = (h 0 x (omega arith), from_all P xs (λ k d l. h (suc k) d (omega (arith, l))))

-- ---- the address of a number

abbrev address_with : (ℕ → ℕ) → List ℕ → ℕ → ℕ
address_with num [] n = 0
address_with num (a ∷ ws) n = cond (num a == n) a (address_with num ws n)

with_number : (num : ℕ → ℕ) (ws : List ℕ) (a : ℕ) → listed a ws ≡ true → ((b : ℕ) → listed b ws ≡ true → num b ≡ num a → b ≡ a) → address_with num ws (num a) ≡ a
with_number num [] a h same = absurd (false≢true h)
with_number num (b ∷ bs) a h same = elim (cases_Bool (num b == num a)) [
  | inl e ↦ rw e (same b (or_left (b == b) (listed b bs) (eq-eqb b b refl)) (eqb-true (num b) (num a) e))
  | inr e ↦ rw e (elim (or_cases (b == a) (listed a bs) h) [
    | inl f ↦ absurd (true≢false (sym (eq-eqb (num b) (num a) (ap num (eqb-true b a f))) ∙ e))
    | inr f ↦ with_number num bs a f (λ c i s. same c (or_right (b == c) (listed c bs) i) s)
  ])
]

-- the address of a mark
abbrev pub address_in : NumberedPage → Marked → ℕ
address_in p m = address_with (number_of p) (keys (page_shape p)) m.number

-- marks of nodes of the page, by what is known of each mark and its address
pub record AreMarks (p : NumberedPage) (Is : ℕ → Marked → Type 0) : Type 0 where
  pub here : (a : ℕ) (m : Marked) → Is a m → on a (page_shape p) ≡ true
  pub numbered : (a : ℕ) (m : Marked) → Is a m → m.number ≡ number_of p a

pub touched_marks : (p : NumberedPage) (shape : Forest Look) → AreMarks p (IsTouched p shape)
touched_marks p shape = record { here = λ a m h. h.here; numbered = λ a m h. h.number }

pub restated_marks : (p : NumberedPage) (shape : Forest Look) → AreMarks p (IsRestated p shape)
restated_marks p shape = record { here = λ a m h. h.here; numbered = λ a m h. h.number }

marked_so : (p : NumberedPage) (Is : ℕ → Marked → Type 0) (a : ℕ) (m : Marked) → IsPage p → AreMarks p Is → Is a m → address_in p m ≡ a
marked_so p Is a m q k h =
    ap (address_with (number_of p) (keys (page_shape p))) (k.numbered a m h)
    ∙ with_number (number_of p) (keys (page_shape p)) a (in_keys a (page_shape p) ∙ k.here a m h)
    (λ b i s. q.distinct b a (sym (in_keys b (page_shape p)) ∙ i) (k.here a m h) s)

addresses_so : (p : NumberedPage) (Is : ℕ → Marked → Type 0) (ws : List ℕ) (ms : List Marked) → IsPage p → AreMarks p Is → Each Is ws ms →
    map (address_in p) ms ≡ ws
addresses_so p Is [] [] q k h = refl
addresses_so p Is (a ∷ ws) (m ∷ ms) q k h = (λ i. marked_so p Is a m q k h.0 i ∷ addresses_so p Is ws ms q k h.1 i)
addresses_so p Is [] (m ∷ ms) q k h = absurd h
addresses_so p Is (a ∷ ws) [] q k h = absurd h

each_so : (p : NumberedPage) (Is : ℕ → Marked → Type 0) (ws : List ℕ) (ms : List Marked) → IsPage p → AreMarks p Is → Each Is ws ms →
    AllByRecursion (λ m. Is (address_in p m) m) ms
each_so p Is [] [] q k h = tt
each_so p Is (a ∷ ws) (m ∷ ms) q k h = (subst (λ z. Is z m) (sym (marked_so p Is a m q k h.0)) h.0, each_so p Is ws ms q k h.1)
each_so p Is [] (m ∷ ms) q k h = absurd h
each_so p Is (a ∷ ws) [] q k h = absurd h

so_again : (p : NumberedPage) (Is : ℕ → Marked → Type 0) (ms : List Marked) → AllByRecursion (λ m. Is (address_in p m) m) ms → Each Is (map (address_in p) ms) ms
so_again p Is [] h = tt
so_again p Is (m ∷ ms) h = (h.0, so_again p Is ms h.1)

-- their numbers
pub numbers_so : (p : NumberedPage) (Is : ℕ → Marked → Type 0) (ws : List ℕ) (ms : List Marked) → AreMarks p Is → Each Is ws ms →
    map (number_of p) ws ≡ numbers_of ms
numbers_so p Is [] [] k h = refl
numbers_so p Is (a ∷ ws) (m ∷ ms) k h = (λ i. sym (k.numbered a m h.0) i ∷ numbers_so p Is ws ms k h.1 i)
numbers_so p Is [] (m ∷ ms) k h = absurd h
numbers_so p Is (a ∷ ws) [] k h = absurd h

-- ---- in another order

often_moved : (j : ℕ) (xs ys : List ℕ) → IsPermutation xs ys → often j ys ≡ often j xs
often_moved j xs ys h =
    is_sum_by (often j) (λ n. one (n == j)) refl (λ n ns. refl) ys
    ∙ (sum_by-IsPermutation (λ n. one (n == j)) xs ys h ∙ sym (is_sum_by (often j) (λ n. one (n == j)) refl (λ n ns. refl) xs))

-- marks in another order are those of their addresses, which are as many
pub record AreMoved (p : NumberedPage) (Is : ℕ → Marked → Type 0) (ws : List ℕ) (ms : List Marked) : Type 0 where
  pub at : Each Is (map (address_in p) ms) ms
  pub often : (j : ℕ) → often j (map (address_in p) ms) ≡ often j ws

pub moved_so : (p : NumberedPage) (Is : ℕ → Marked → Type 0) (ws : List ℕ) (ms ns : List Marked) → IsPage p → AreMarks p Is → Each Is ws ms →
    IsPermutation ms ns → AreMoved p Is ws ns
moved_so p Is ws ms ns q k h moved = record {
  at = so_again p Is ns
      (from_all (λ m. Is (address_in p m) m) ns (All-permutation (λ m. Is (address_in p m) m) ms ns moved
      (to_all (λ m. Is (address_in p m) m) ms (each_so p Is ws ms q k h))));
  often = λ j.
      often_moved j (map (address_in p) ms) (map (address_in p) ns) (IsPermutation-map (address_in p) ms ns moved)
      ∙ ap (often j) (addresses_so p Is ws ms q k h);
}

-- ---- ascending

-- each number is no higher than those behind it
abbrev pub Rising : List ℕ → Type 0
Rising [] = Unit {0}
Rising (n ∷ ns) = AllByRecursion (λ m. n ≤ m) ns × Rising ns

behind : {X : Type 0} (n : X → ℕ) (x : X) (xs : List X) → ((j : ℕ) (d : X) → j < length xs → n x ≤ n (slice_index_or xs j d)) → AllByRecursion (λ m. n x ≤ m) (map n xs)
behind n x [] h = tt
behind n x (y ∷ ys) h = (h 0 y (omega arith), behind n x ys (λ j d l. h (suc j) d (omega (arith, l))))

pub rising : {X : Type 0} (n : X → ℕ) (xs : List X) → IsNonDecreasingBy n xs → Rising (map n xs)
rising n [] h = tt
rising n (x ∷ xs) h = (
  behind n x xs (λ j d l. h 0 (suc j) d (omega arith) (omega (arith, l))),
  rising n xs (λ i j d le l. h (suc i) (suc j) d (omega (arith, le)) (omega (arith, l))),
)

pub stays_sorted : (num : ℕ → ℕ) (ws : List ℕ) → Rising (map num ws) → ascending_by num ws ≡ ws
stays_sorted num [] h = refl
stays_sorted num (a ∷ []) h = refl
stays_sorted num (a ∷ b ∷ bs) h =
    ap (into_by num a) (stays_sorted num (b ∷ bs) h.1) ∙ (let e : leb (num a) (num b) ≡ true = le-leb (num a) (num b) h.0.0 in rw e refl)

-- ---- what rests on how often an address is there alone

pub same_listed : (ws bs : List ℕ) → ((j : ℕ) → often j ws ≡ often j bs) → (j : ℕ) → listed j ws ≡ true → listed j bs ≡ true
same_listed ws bs e j h = (let o = listed_often j ws h in let s = e j in often_listed j bs (omega (arith, o, s)))

covers_so : (old new : Forest Look) (Same : ℕ → Type 0) (ws bs : List ℕ) → ((j : ℕ) → often j ws ≡ often j bs) → Covers old new Same bs → Covers old new Same ws
covers_so old new Same ws bs e c = record {
  few = λ j. (let f = c.few j in let s = e j in omega (arith, f, s));
  there = λ j h. c.there j (same_listed ws bs e j h);
  rest = λ j n o h. c.rest j n o (elim (cases_Bool (listed j bs)) [
    | inl f ↦ absurd (true≢false (sym (same_listed bs ws (λ i. sym (e i)) j f) ∙ h))
    | inr f ↦ f
  ]);
}

pub sees_so : (old new : Forest Look) (ws bs vs ds : List ℕ) → ((j : ℕ) → often j ws ≡ often j bs) → ((j : ℕ) → often j vs ≡ often j ds) →
    Sees old new new bs ds → Sees old new new ws vs
sees_so old new ws bs vs ds e f s = record { children = covers_so old new _ ws bs e s.children; looks = covers_so old new _ vs ds f s.looks }
