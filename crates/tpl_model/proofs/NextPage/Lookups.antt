-- What is read by number from the tree that stands.
use Rattle.std.proofs.Common.{◌≡◌, ℕ, ◌==◌, Bool, true, not, List, [], ◌∷◌, ◌++◌, map, refl, sym, ap, ◌∙◌, eqb-true, eq-eqb, inl, inr}
use Rattle.std.specs.List.{flat_map}
use Rattle.std.proofs.lemmas.Bool.{cases_Bool, false≢true, true≢false, or_cases}
use Rattle.tpl_model.proofs.Orders.{ascending_map}
use Rattle.tpl_model.proofs.Numbered.{child_on, kids_num, siblings_num, map_both}
use Rattle.page_model.specs.Edits.{ascending, listed, siblings}
use Rattle.page_model.specs.Forest.{Forest, on, keys, kids, label_in, numbered}
use Rattle.page_model.specs.Labels.{Root, Look, seen, shown}
use Rattle.page_model.specs.Pages.{NumberedPage, IsPage, number_of, page_shape, those, tree_of}
use Rattle.page_model.proofs.Shared.{or_left, or_right, label_shown, by_number_is, from_those, in_keys, label_num, to_those}
use Rattle.tpl_model.specs.NextPage.Lookups.{KeptLaw, ReadsLaw, RemovalsLaw, TellsKept, gone_numbers}
use Rattle.tpl_model.specs.NextPage.Marks.{common, gone_children}

-- ---- lists of numbers

-- those that pass a test, by their numbers
pub those_num : (num : ℕ → ℕ) (test by : ℕ → Bool) (xs : List ℕ) → ((j : ℕ) → listed j xs ≡ true → by (num j) ≡ test j) → map num (those test xs) ≡ those by (map num xs)
those_num num test by [] h = refl
those_num num test by (x ∷ xs) h =
    let e = h x (or_left (x == x) (listed x xs) (eq-eqb x x refl)) in
    let i = those_num num test by xs (λ j g. h j (or_right (x == j) (listed j xs) g)) in
    elim (cases_Bool (test x)) [
      | inl t ↦ rw (e, t) (ap (λ z. num x ∷ z) i)
      | inr t ↦ rw (e, t) i
    ]

pub map_in : (num : ℕ → ℕ) (a : ℕ) (xs : List ℕ) → listed a xs ≡ true → listed (num a) (map num xs) ≡ true
map_in num a [] h = absurd (false≢true h)
map_in num a (x ∷ xs) h = elim (or_cases (x == a) (listed a xs) h) [
  | inl e ↦ or_left (num x == num a) (listed (num a) (map num xs)) (eq-eqb (num x) (num a) (ap num (eqb-true x a e)))
  | inr e ↦ or_right (num x == num a) (listed (num a) (map num xs)) (map_in num a xs e)
]

pub in_map : (num : ℕ → ℕ) (n : ℕ) (xs : List ℕ) → listed n (map num xs) ≡ true → (a : ℕ) × (listed a xs ≡ true) × (num a ≡ n)
in_map num n [] h = absurd (false≢true h)
in_map num n (x ∷ xs) h = elim (or_cases (num x == n) (listed n (map num xs)) h) [
  | inl e ↦ (x, or_left (x == x) (listed x xs) (eq-eqb x x refl), eqb-true (num x) n e)
  | inr e ↦ (let i = in_map num n xs e in (i.0, or_right (x == i.0) (listed i.0 xs) i.1, i.2))
]

-- ---- one node

pub children_read : (p : NumberedPage) (a : ℕ) → IsPage p → on a (page_shape p) ≡ true →
    siblings (kids (number_of p a) (tree_of p)) ≡ map (number_of p) (siblings (kids a (page_shape p)))
children_read p a q o =
    let num = number_of p in
    let t = page_shape p in
    ap (λ z. siblings (kids (num a) (shown z))) (by_number_is p q.once)
    ∙ (ap siblings (kids_num num a t (λ b h e. q.distinct a b o h e)) ∙ siblings_num num (kids a t))

label_read : (p : NumberedPage) (a : ℕ) → IsPage p → on a (page_shape p) ≡ true →
    label_in Root (number_of p a) (tree_of p) ≡ seen (label_in Root a (page_shape p))
label_read p a q o =
    let num = number_of p in
    let t = page_shape p in
    ap (λ z. label_in Root (num a) (shown z)) (by_number_is p q.once)
    ∙ (label_shown (num a) (numbered num t) ∙ ap seen (label_num Root num a t (λ b h e. q.distinct a b o h e)))

pub reads_law : ReadsLaw
reads_law p shape kept q tells a o = record {
  children =
      let xs = siblings (kids a (page_shape p)) in
      ap (those kept) (children_read p a q o)
      ∙ sym (those_num (number_of p) (λ b. on b shape) kept xs (λ j h. tells j (child_on a j (page_shape p) h)));
  label = label_read p a q o;
}

-- ---- what is removed

gone_read : (p : NumberedPage) (shape : Forest Look) (kept : ℕ → Bool) → IsPage p → TellsKept p shape kept → (a : ℕ) → on a (page_shape p) ≡ true →
    gone_numbers kept (tree_of p) (number_of p a) ≡ map (number_of p) (those (λ b. not (on b shape)) (siblings (kids a (page_shape p))))
gone_read p shape kept q tells a o =
    let xs = siblings (kids a (page_shape p)) in
    ap (those (λ c. not (kept c))) (children_read p a q o)
    ∙ sym (those_num (number_of p) (λ b. not (on b shape)) (λ c. not (kept c)) xs (λ j h. ap not (tells j (child_on a j (page_shape p) h))))

all_gone_read : (p : NumberedPage) (shape : Forest Look) (kept : ℕ → Bool) (marks : List ℕ) → IsPage p → TellsKept p shape kept →
    ((a : ℕ) → listed a marks ≡ true → on a (page_shape p) ≡ true) →
    map (number_of p) (gone_children (page_shape p) shape marks) ≡ flat_map (gone_numbers kept (tree_of p)) (map (number_of p) marks)
all_gone_read p shape kept [] q tells h = refl
all_gone_read p shape kept (a ∷ marks) q tells h =
    let num = number_of p in
    let xs = those (λ b. not (on b shape)) (siblings (kids a (page_shape p))) in
    let ys = gone_children (page_shape p) shape marks in
    let e = gone_read p shape kept q tells a (h a (or_left (a == a) (listed a marks) (eq-eqb a a refl))) in
    let i = all_gone_read p shape kept marks q tells (λ j g. h j (or_right (a == j) (listed j marks) g)) in
    map_both num xs ys ∙ (ap (λ z. z ++ map num ys) (sym e) ∙ ap (λ z. gone_numbers kept (tree_of p) (num a) ++ z) i)

pub removals_law : RemovalsLaw
removals_law p shape kept marks q tells h =
    sym (ascending_map (number_of p) (gone_children (page_shape p) shape marks)) ∙ ap ascending (all_gone_read p shape kept marks q tells h)

-- ---- what is kept

pub kept_law : KeptLaw
kept_law p shape q a o =
    let num = number_of p in
    let before = page_shape p in
    let marks = common before shape in
    elim (cases_Bool (on a shape)) [
      | inl e ↦ (let l : listed a marks ≡ true = to_those (λ b. on b before) a (keys shape) (in_keys a shape ∙ e) o in map_in num a marks l ∙ sym e)
      | inr e ↦ elim (cases_Bool (listed (num a) (map num marks))) [
        | inl f ↦ (
            let i = in_map num (num a) marks f in
            let b = from_those (λ c. on c before) i.0 (keys shape) i.1 in
            let same : a ≡ i.0 = q.distinct a i.0 o b.1 (sym i.2) in
            absurd (true≢false (sym (ap (λ z. on z shape) same ∙ (sym (in_keys i.0 shape) ∙ b.0)) ∙ e)))
        | inr f ↦ f ∙ sym e
      ]
    ]
