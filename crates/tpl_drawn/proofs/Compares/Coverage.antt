-- Marks of nodes of both pages, and what holds where a node has none.
use Rattle.std.proofs.Common.{◌≡◌, ℕ, ◌==◌, ◌||◌, Bool, true, false, cond, Some, None, List, [], ◌∷◌, ◌++◌, map, refl, sym, ap, subst, ◌∙◌, arith, eqb-true, eq-eqb, inl, inr}
use Rattle.std.proofs.lemmas.Bool.{false≢true, true≢false, or_cases}
use Rattle.page_model.specs.Edits.{listed}
use Rattle.page_model.specs.Forest.{Forest, none, node, after, kids, label_in, on}
use Rattle.page_model.specs.Labels.{Root, Look}
use Rattle.page_model.specs.Pages.{NumberedPage, number_of, page_shape}
use Rattle.page_model.proofs.Shared.{or_left, or_right, self_on}
use Rattle.tpl_model.specs.ShownNodes.Shapes.{Marked}
use Rattle.tpl_drawn.specs.Marks.{children_in, marked_at, marks_in}
use Rattle.tpl_model.specs.NextPage.Marks.{Covers}
use Rattle.tpl_model.proofs.Shared.{New, often_both, covers_after, covers_node, covers_none, covers_skip, Single, in_both, within_kids, within_later}
use Rattle.tpl_model.specs.PageUpdates.Differences.{Within}
use Rattle.tpl_drawn.specs.Comparison.{Each, known_of}

-- marks of a part of the next page, each with a fact of its node; a node of the page that stands has another where it isn't marked
pub record Covered (old : Forest Look) (Is : ℕ → Marked → Type 0) (Same : ℕ → Type 0) (part : Forest Look) (ms : List Marked) : Type 0 where
  pub addresses : List ℕ
  pub each : Each Is addresses ms
  pub covers : Covers old part Same addresses

each_both : (Is : ℕ → Marked → Type 0) (xs ys : List ℕ) (ms ns : List Marked) → Each Is xs ms → Each Is ys ns → Each Is (xs ++ ys) (ms ++ ns)
each_both Is [] ys [] ns h i = i
each_both Is (a ∷ xs) ys (m ∷ ms) ns h i = (h.0, each_both Is xs ys ms ns h.1 i)
each_both Is [] ys (m ∷ ms) ns h i = absurd h
each_both Is (a ∷ xs) ys [] ns h i = absurd h

-- nothing is marked where nothing is
pub covered_none : (old : Forest Look) (Is : ℕ → Marked → Type 0) (Same : ℕ → Type 0) → Covered old Is Same none []
covered_none old Is Same = record { addresses = []; each = tt; covers = covers_none old Same }

-- one part after the other
pub covered_after : (old : Forest Look) (Is : ℕ → Marked → Type 0) (Same : ℕ → Type 0) (xs ys : Forest Look) (ms ns : List Marked) →
    Covered old Is Same xs ms → Covered old Is Same ys ns → Covered old Is Same (after xs ys) (ms ++ ns)
covered_after old Is Same xs ys ms ns c d = record {
  addresses = c.addresses ++ d.addresses;
  each = each_both Is c.addresses d.addresses ms ns c.each d.each;
  covers = covers_after old xs ys Same c.addresses d.addresses c.covers d.covers;
}

-- a part that has what it had
pub covered_skip : (old : Forest Look) (Is : ℕ → Marked → Type 0) (Same : ℕ → Type 0) (part : Forest Look) → ((j : ℕ) → on j part ≡ true → Same j) →
    Covered old Is Same part []
covered_skip old Is Same part same = record { addresses = []; each = tt; covers = covers_skip old part Same same }

-- a part of which nothing is on the page that stands
pub covered_new : (old : Forest Look) (Is : ℕ → Marked → Type 0) (Same : ℕ → Type 0) (part : Forest Look) →
    ((j : ℕ) → on j part ≡ true → on j old ≡ false) → Covered old Is Same part []
covered_new old Is Same part new = record {
  addresses = [];
  each = tt;
  covers = record { few = λ j. omega arith; there = λ j h. absurd (false≢true h); rest = λ j h k e. absurd (true≢false (sym k ∙ new j h)) };
}

-- a node that isn't marked
pub covered_bare : (old : Forest Look) (Is : ℕ → Marked → Type 0) (Same : ℕ → Type 0) (a : ℕ) (x : Look) (k : Forest Look) (ms : List Marked) →
    Same a → Covered old Is Same k ms → Covered old Is Same (node a x k none) ms
covered_bare old Is Same a x k ms same c = record {
  addresses = c.addresses;
  each = c.each;
  covers = covers_node old a x k Same false c.addresses (λ e. absurd (false≢true e)) (λ e h. same) c.covers;
}

-- the first address behind the others
covers_turned : (old part : Forest Look) (Same : ℕ → Type 0) (a : ℕ) (xs : List ℕ) → Covers old part Same (a ∷ xs) → Covers old part Same (xs ++ a ∷ [])
covers_turned old part Same a xs c = record {
  few = λ j. (let f = c.few j in let o = often_both j xs (a ∷ []) in omega (arith, f, o));
  there = λ j h. c.there j (elim (or_cases (listed j xs) (a == j || false) (sym (in_both j xs (a ∷ [])) ∙ h)) [
    | inl e ↦ or_right (a == j) (listed j xs) e
    | inr e ↦ elim (or_cases (a == j) false e) [ inl f ↦ or_left (a == j) (listed j xs) f | inr f ↦ absurd (false≢true f) ]
  ]);
  rest = λ j h k e. c.rest j h k (turned (a == j) (listed j xs) (sym (in_both j xs (a ∷ [])) ∙ e));
}
  where
    turned : (b c : Bool) → (c || (b || false)) ≡ false → (b || c) ≡ false
    turned true true h = h
    turned true false h = h
    turned false true h = h
    turned false false h = h

-- a marked node, its mark behind those below it
pub covered_marked : (old : Forest Look) (Is : ℕ → Marked → Type 0) (Same : ℕ → Type 0) (a : ℕ) (x : Look) (k : Forest Look) (ms : List Marked)
    (m : Marked) → on a old ≡ true → Is a m → Covered old Is Same k ms → Covered old Is Same (node a x k none) (ms ++ m ∷ [])
covered_marked old Is Same a x k ms m here is c = record {
  addresses = c.addresses ++ a ∷ [];
  each = each_both Is c.addresses (a ∷ []) ms (m ∷ []) c.each (is, tt);
  covers = covers_turned old (node a x k none) Same a c.addresses
      (covers_node old a x k Same true c.addresses (λ e. here) (λ e h. absurd (true≢false e)) c.covers);
}

-- ---- all nodes

map_both : (f : Marked → Marked) (xs ys : List Marked) → map f (xs ++ ys) ≡ map f xs ++ map f ys
map_both f [] ys = refl
map_both f (x ∷ xs) ys = ap (λ z. f x ∷ z) (map_both f xs ys)

-- what a mark of a node of both pages is
abbrev pub AreMarks : NumberedPage → Forest Look → (Marked → Marked) → (ℕ → Marked → Type 0) → Type 0
AreMarks p new part Is = (a : ℕ) (x : Look) (k : Forest Look) → on a (page_shape p) ≡ true → on a new ≡ true → kids a new ≡ k → label_in Root a new ≡ x →
    Is a (part (record { number = number_of p a; look = x; children = children_in (known_of p) k }))

-- one node, over what stands below it
one_made : (p : NumberedPage) (new : Forest Look) (part : Marked → Marked) (Is : ℕ → Marked → Type 0) (Same : ℕ → Type 0) → AreMarks p new part Is →
    (a : ℕ) (x : Look) (k : Forest Look) (b : Bool) → on a (page_shape p) ≡ b → on a new ≡ true → kids a new ≡ k → label_in Root a new ≡ x →
    (b ≡ false → (j : ℕ) → on j k ≡ true → on j (page_shape p) ≡ false) → Covered (page_shape p) Is Same k (map part (marks_in (known_of p) k)) →
    Covered (page_shape p) Is Same (node a x k none)
    (map part (marked_at (cond b (Some (number_of p a)) None) x (children_in (known_of p) k) (marks_in (known_of p) k)))
one_made p new part Is Same tells a x k true here there below look gone c =
    let m : Marked = record { number = number_of p a; look = x; children = children_in (known_of p) k } in
    subst (Covered (page_shape p) Is Same (node a x k none)) (sym (map_both part (marks_in (known_of p) k) (m ∷ [])))
    (covered_marked (page_shape p) Is Same a x k (map part (marks_in (known_of p) k)) (part m) here (tells a x k here there below look) c)
one_made p new part Is Same tells a x k false here there below look gone c =
    covered_new (page_shape p) Is Same (node a x k none) (λ j h. elim (or_cases (a == j) (on j k || false) h) [
      | inl e ↦ ap (λ z. on z (page_shape p)) (sym (eqb-true a j e)) ∙ here
      | inr e ↦ elim (or_cases (on j k) false e) [ inl f ↦ gone refl j f | inr f ↦ absurd (false≢true f) ]
    ])

-- a part that was made anew has all its nodes marked that are on the page
pub covered_made : (p : NumberedPage) (new : Forest Look) (part : Marked → Marked) (Is : ℕ → Marked → Type 0) (Same : ℕ → Type 0) → AreMarks p new part Is →
    (t : Forest Look) → Within new t → Single t → New (λ c. on c (page_shape p)) t → Covered (page_shape p) Is Same t (map part (marks_in (known_of p) t))
covered_made p new part Is Same tells none w l n = covered_none (page_shape p) Is Same
covered_made p new part Is Same tells (node a x k r) w l n =
    let inside = within_kids new a x k r w l in
    let later = within_later new (node a x k none) r w l in
    let self = self_on a x k r in
    let here : (a == a) ≡ true = eq-eqb a a refl in
    let one = marked_at (known_of p a) x (children_in (known_of p) k) (marks_in (known_of p) k) in
    subst (Covered (page_shape p) Is Same (node a x k r)) (sym (map_both part one (marks_in (known_of p) r)))
    (covered_after (page_shape p) Is Same (node a x k none) r (map part one) (map part (marks_in (known_of p) r))
    (one_made p new part Is Same tells a x k (on a (page_shape p)) refl (w.there a self) (w.kids_there a self ∙ rw here refl)
    (w.look_there a self ∙ rw here refl) n.0 (covered_made p new part Is Same tells k inside.0 inside.1 n.1))
    (covered_made p new part Is Same tells r later.0 later.1 n.2))
