-- What makings leave.
use Rattle.std.proofs.Common.{◌≡◌, ℕ, ◌+◌, ◌<◌, ◌==◌, ◌||◌, ◌++◌, true, false, cond, List, [], ◌∷◌, length, Option, Some, None, refl, sym, ap, subst, ◌∙◌, arith, inl, inr}
use Rattle.std.proofs.lemmas.Bool.{eq-eqb, eqb-true}
use Rattle.std.proofs.lemmas.Bool.Decides.{nat_tests}
use Rattle.signal_model.proofs.Shared.{either, or_left, or_right, tested}
use Rattle.effect_model.specs.Owners.{Thing, the_owner, the_effect, the_page, Owned, alone, made_inside, put_under, same_thing}
use Rattle.sig_owner.specs.Tables.{Row, is_open, live_at, thing_at, with_holder}
use Rattle.sig_owner.specs.Renames.{renamed, renamed_thing}
use Rattle.sig_owner.specs.Trees.{has_thing, made_in, owned_of}
use Rattle.sig_owner.proofs.Shared.{has_put, new_lives, new_thing, other_lives, other_thing, renamed_put}
use Rattle.effect_tables.specs.declared.effect.Effect.{Effect}
use Rattle.effect_tables.specs.declared.thing.Thing.{Thing as AThing}
use Rattle.effect_tables.specs.declared.thing.Thing.TheVariants as made
use Rattle.effect_tables.specs.Consistency.{AreAlive, AreFresh, AreNumbered, IsEffect, IsKnown, IsOwner}
use Rattle.effect_tables.specs.Children.{MakesEffect, MakesOwner}
use Rattle.effect_tables.specs.Locations.{IsInside}
use Rattle.effect_tables.specs.Things.{named_at, named_thing}
use Rattle.effect_tables.specs.Owners.{has_row, is_row, living, number_in}
use Rattle.effect_tables.proofs.Numbers.{apart_more, left_off, living_more, number_apart, number_at, number_more, number_new, right_off, swapped}
use Rattle.effect_tables.proofs.Rows.{all_behind, all_weaker, live_below, made_row, name_by, renamed_by, unless_known}

-- one thing more is noted
abbrev pub IsPut : (ℕ → Option AThing) → (ℕ → Option AThing) → ℕ → AThing → Type 0
IsPut things later n t = (k : ℕ) → later k ≡ cond (n == k) (Some t) (things k)

put_here : (things later : ℕ → Option AThing) (n : ℕ) (t : AThing) → IsPut things later n t → (k : ℕ) → k ≡ n → named_at later k ≡ named_thing (Some t)
put_here things later n t p k e = ap named_thing (p k ∙ ap (λ b. cond b (Some t) (things k)) (eq-eqb n k (sym e)))

put_off : (things later : ℕ → Option AThing) (n : ℕ) (t : AThing) → IsPut things later n t → (k : ℕ) → (n == k) ≡ false → named_at later k ≡ named_at things k
put_off things later n t p k e = ap named_thing (p k ∙ ap (λ b. cond b (Some t) (things k)) e)

-- ---- where a thing is made

-- the row where a thing is made is that of the owner in which it is made, by these numbers
abbrev pub Stands : (ℕ → ℕ) → List Row → Option ℕ → Option ℕ → Type 0
Stands g rows None None = Unit {0}
Stands g rows (Some o) (Some r) = renamed_thing g (thing_at rows r) ≡ the_owner o
Stands g rows _ _ = ⊥

pub inside_stands : (g : ℕ → ℕ) (es : List (Option ℕ)) (xs : List Effect) (things : ℕ → Option AThing) (rows : List Row) (inside outer : Option ℕ) → IsInside es inside outer →
    AreNumbered es things rows → AreAlive es xs rows → ((m : ℕ) → is_row m es ≡ true → g m ≡ number_in es m) → Stands g rows inside outer
inside_stands g es xs things rows None None h n a by = tt
inside_stands g es xs things rows None (Some r) h n a by = absurd h
inside_stands g es xs things rows (Some o) None h n a by = absurd h
inside_stands g es xs things rows (Some o) (Some r) h n a by =
    let two = number_at es o r n.apart h in
    ap (renamed_thing g) (a.owners r two.1).thing ∙ ap the_owner (by r two.1 ∙ two.0)

-- and it lives
pub open_row : (es : List (Option ℕ)) (xs : List Effect) (things : ℕ → Option AThing) (rows : List Row) (inside outer : Option ℕ) → IsInside es inside outer →
    AreNumbered es things rows → AreAlive es xs rows → is_open rows outer ≡ true
open_row es xs things rows None None h n a = refl
open_row es xs things rows None (Some r) h n a = absurd h
open_row es xs things rows (Some o) None h n a = absurd h
open_row es xs things rows (Some o) (Some r) h n a = (a.owners r (number_at es o r n.apart h).1).lives

-- the tree with a thing that is made
pub tree_made : (g : ℕ → ℕ) → ((m n : ℕ) → g m ≡ g n → m ≡ n) → (rows : List Row) (inside outer : Option ℕ) (t : Thing) (x : Owned) → Stands g rows inside outer →
    renamed g (made_in rows outer t x) ≡ made_inside inside (renamed_thing g t) (renamed g x)
tree_made g apart rows None None t x s = refl
tree_made g apart rows None (Some r) t x s = absurd s
tree_made g apart rows (Some o) None t x s = absurd s
tree_made g apart rows (Some o) (Some r) t x s =
    renamed_put g apart (thing_at rows r) (alone t) x ∙ ap (λ u. put_under u (alone (renamed_thing g t)) (renamed g x)) s

-- what stands nowhere stands nowhere after another was made
pub has_made : (t u : Thing) (rows : List Row) (outer : Option ℕ) (x : Owned) → same_thing t u ≡ false → has_thing t x ≡ false → has_thing t (made_in rows outer u x) ≡ false
has_made t u rows None x p q = λ i. p i || q i
has_made t u rows (Some r) x p q = has_put t (thing_at rows r) (alone u) x (ap (λ b. b || false) p) q

-- ---- what lives

more_than : (n k : ℕ) → k < n → k ≡ n → ⊥
more_than n k l e = omega (arith, l, e)

pub owner_still : (rows : List Row) (outer : Option ℕ) (t : Thing) (k : ℕ) → IsOwner rows k → IsOwner (with_holder rows outer t) k
owner_still rows outer t k h =
    let off : k ≡ length rows → ⊥ = more_than (length rows) k (live_below rows k h.lives) in
    record { lives = other_lives rows outer t k off ∙ h.lives; thing = other_thing rows outer t k off ∙ h.thing }

pub effect_still : (rows : List Row) (outer : Option ℕ) (t : Thing) (x : Effect) → IsEffect rows x → IsEffect (with_holder rows outer t) x
effect_still rows outer t x h =
    let off : x.row ≡ length rows → ⊥ = more_than (length rows) x.row (live_below rows x.row h.lives) in
    record { lives = other_lives rows outer t x.row off ∙ h.lives; thing = other_thing rows outer t x.row off ∙ h.thing }

-- ---- an owner is made

in_more : (es : List (Option ℕ)) (x : Option ℕ) (m : ℕ) → is_row m es ≡ true → is_row m (es ++ x ∷ []) ≡ true
in_more [] x m h = cc
in_more (e ∷ es) x m h = elim (either (has_row m e) (is_row m es) h) [
  | inl q ↦ or_left (has_row m e) (is_row m (es ++ x ∷ [])) q
  | inr q ↦ or_right (has_row m e) (is_row m (es ++ x ∷ [])) (in_more es x m q)
]

in_last : (es : List (Option ℕ)) (x m : ℕ) → m ≡ x → is_row m (es ++ Some x ∷ []) ≡ true
in_last [] x m h = or_left (m == x) false (eq-eqb m x h)
in_last (e ∷ es) x m h = or_right (has_row m e) (is_row m (es ++ Some x ∷ [])) (in_last es x m h)

not_more : (es : List (Option ℕ)) (x m : ℕ) → is_row m (es ++ Some x ∷ []) ≡ false → ((m == x) ≡ false) × (is_row m es ≡ false)
not_more [] x m h = (left_off (m == x) false h, refl)
not_more (e ∷ es) x m h =
    let two = not_more es x m (right_off (has_row m e) (is_row m (es ++ Some x ∷ [])) h) in
    (two.0, λ i. left_off (has_row m e) (is_row m (es ++ Some x ∷ [])) h i || two.1 i)

in_behind : (es : List (Option ℕ)) (x m : ℕ) → is_row m (es ++ Some x ∷ []) ≡ true → (m == x) ≡ false → is_row m es ≡ true
in_behind [] x m h e = sym (ap (λ b. b || false) e) ∙ h
in_behind (y ∷ es) x m h e = elim (either (has_row m y) (is_row m (es ++ Some x ∷ [])) h) [
  | inl q ↦ or_left (has_row m y) (is_row m es) q
  | inr q ↦ or_right (has_row m y) (is_row m es) (in_behind es x m q e)
]

known_more : (es : List (Option ℕ)) (x : Option ℕ) (k : ℕ) (t : Thing) → IsKnown es k t → IsKnown (es ++ x ∷ []) k t
known_more es x k (the_owner n) h = (h.0, in_more es x k h.1)
known_more es x k (the_effect n) h = h
known_more es x k (the_page n) h = absurd h
known_more es x k _ h = absurd h

module _ (es : List (Option ℕ)) (xs : List Effect) (things noted : ℕ → Option AThing) (rows later : List Row) (inside outer : Option ℕ) (n j : ℕ)
    (m : MakesOwner rows later outer n) (h : AreNumbered es things rows) (a : AreAlive es xs rows) (i : IsInside es inside outer) (number : j ≡ length es)
    (put : IsPut things noted n (made.Owner j)) where
  fresh_row : is_row n es ≡ false
  fresh_row = elim (tested (is_row n es)) [
    | inl on ↦ absurd (more_than (length rows) n (live_below rows n (a.owners n on).lives) m.gives)
    | inr off ↦ off
  ]

  its_number : number_in (es ++ Some n ∷ []) n ≡ length es
  its_number = number_new es n fresh_row

  other_number : (k : ℕ) → (k ≡ length rows → ⊥) → (k == n) ≡ false
  other_number k off = elim (tested (k == n)) [ inl q ↦ absurd (off (eqb-true k n q ∙ m.gives)) | inr q ↦ q ]

  tree_with : owned_of (with_holder rows outer (the_owner n)) ≡ made_in rows outer (the_owner n) (owned_of rows)
  tree_with = sym (ap owned_of m.after) ∙ m.tree

  numbered_made : AreNumbered (es ++ Some n ∷ []) noted (with_holder rows outer (the_owner n))
  numbered_made = record {
    named = λ k on. elim (made_row rows outer (the_owner n) k) [
      | inl y ↦ put_here things noted n (made.Owner j) put k (y.place ∙ sym m.gives)
          ∙ sym (ap (renamed_thing (number_in (es ++ Some n ∷ []))) y.thing ∙ ap the_owner (its_number ∙ sym number))
      | inr y ↦ (let was = sym y.lives ∙ on in
          put_off things noted n (made.Owner j) put k (swapped n k (other_number k y.off)) ∙ h.named k was
          ∙ sym (ap (renamed_thing (number_in (es ++ Some n ∷ []))) y.thing
          ∙ name_by (number_in (es ++ Some n ∷ [])) (number_in es) es k (thing_at rows k) (number_more es (Some n) k) (h.known k was)))
    ];
    known = λ k on. elim (made_row rows outer (the_owner n) k) [
      | inl y ↦ subst (IsKnown (es ++ Some n ∷ []) k) (sym y.thing) (let e = y.place ∙ sym m.gives in (e, in_last es n k e))
      | inr y ↦ subst (IsKnown (es ++ Some n ∷ []) k) (sym y.thing) (known_more es (Some n) k (thing_at rows k) (h.known k (sym y.lives ∙ on)))
    ];
    effects = λ k e q. elim (made_row rows outer (the_owner n) k) [
      | inl y ↦ (let z : the_owner n ≡ the_effect e = sym y.thing ∙ q in cc)
      | inr y ↦ y.lives ∙ h.effects k e (sym y.thing ∙ q)
    ];
    apart = apart_more es n fresh_row h.apart;
    stand = λ k off.
        let two = not_more es n k off in
        ap (has_thing (the_owner k)) tree_with ∙ has_made (the_owner k) (the_owner n) rows outer (owned_of rows) two.0 (h.stand k two.1);
  }

  pub owner_numbered : AreNumbered (es ++ Some n ∷ []) noted later
  owner_numbered = subst (AreNumbered (es ++ Some n ∷ []) noted) (sym m.after) numbered_made

  new_owner : (k : ℕ) → k ≡ n → IsOwner (with_holder rows outer (the_owner n)) k
  new_owner k e = record {
    lives = ap (live_at (with_holder rows outer (the_owner n))) (e ∙ m.gives) ∙ new_lives rows outer (the_owner n);
    thing = ap (thing_at (with_holder rows outer (the_owner n))) (e ∙ m.gives) ∙ new_thing rows outer (the_owner n) ∙ ap the_owner (sym e);
  }

  pub owner_alive : AreAlive (es ++ Some n ∷ []) xs later
  owner_alive = subst (AreAlive (es ++ Some n ∷ []) xs) (sym m.after) (record {
    owners = λ k on. elim (tested (k == n)) [
      | inl e ↦ new_owner k (eqb-true k n e)
      | inr off ↦ owner_still rows outer (the_owner n) k (a.owners k (in_behind es n k on off))
    ];
    effects = all_weaker (IsEffect rows) (IsEffect (with_holder rows outer (the_owner n))) xs (effect_still rows outer (the_owner n)) a.effects;
  })

  pub owner_fresh : (effects pages : ℕ) → AreFresh effects pages rows → AreFresh effects pages later
  owner_fresh effects pages f = record {
    effects = λ k l. ap (has_thing (the_effect k)) m.tree ∙ has_made (the_effect k) (the_owner n) rows outer (owned_of rows) refl (f.effects k l);
    pages = λ k l. ap (has_thing (the_page k)) m.tree ∙ has_made (the_page k) (the_owner n) rows outer (owned_of rows) refl (f.pages k l);
  }

  pub owner_tree : renamed (number_in (es ++ Some n ∷ [])) (owned_of later) ≡ made_inside inside (the_owner (length es)) (renamed (number_in es) (owned_of rows))
  owner_tree =
      let g : ℕ → ℕ = number_in (es ++ Some n ∷ []) in
      ap (renamed g) m.tree
      ∙ tree_made g (number_apart (es ++ Some n ∷ [])) rows inside outer (the_owner n) (owned_of rows) (inside_stands g es xs things rows inside outer i h a (number_more es (Some n)))
      ∙ (λ l. made_inside inside (the_owner (its_number l)) (same l))
    where
      same : renamed (number_in (es ++ Some n ∷ [])) (owned_of rows) ≡ renamed (number_in es) (owned_of rows)
      same = renamed_by (number_in (es ++ Some n ∷ [])) (number_in es) (owned_of rows)
          (λ k on. number_more es (Some n) k (unless_known es k (has_thing (the_owner k) (owned_of rows)) on (h.stand k)))

  pub owner_living : living 0 (es ++ Some n ∷ []) ≡ living 0 es ++ length es ∷ []
  owner_living = living_more es n 0 (length es) (omega arith)

-- ---- an effect is made

module _ (es : List (Option ℕ)) (xs : List Effect) (things noted : ℕ → Option AThing) (rows later : List Row) (outer : Option ℕ) (x : Effect)
    (m : MakesEffect rows later outer x.id x.row) (h : AreNumbered es things rows) (a : AreAlive es xs rows) (put : IsPut things noted x.row (made.Effect x.id)) where
  other_place : (k : ℕ) → (k ≡ length rows → ⊥) → (x.row == k) ≡ false
  other_place k off = elim (tested (x.row == k)) [ inl q ↦ absurd (off (sym (eqb-true x.row k q) ∙ m.gives)) | inr q ↦ q ]

  effect_made : AreNumbered es noted (with_holder rows outer (the_effect x.id))
  effect_made = record {
    named = λ k on. elim (made_row rows outer (the_effect x.id) k) [
      | inl y ↦ put_here things noted x.row (made.Effect x.id) put k (y.place ∙ sym m.gives) ∙ sym (ap (renamed_thing (number_in es)) y.thing)
      | inr y ↦ put_off things noted x.row (made.Effect x.id) put k (other_place k y.off) ∙ h.named k (sym y.lives ∙ on) ∙ sym (ap (renamed_thing (number_in es)) y.thing)
    ];
    known = λ k on. elim (made_row rows outer (the_effect x.id) k) [
      | inl y ↦ subst (IsKnown es k) (sym y.thing) tt
      | inr y ↦ subst (IsKnown es k) (sym y.thing) (h.known k (sym y.lives ∙ on))
    ];
    effects = λ k e q. elim (made_row rows outer (the_effect x.id) k) [
      | inl y ↦ ap (live_at (with_holder rows outer (the_effect x.id))) y.place ∙ new_lives rows outer (the_effect x.id)
      | inr y ↦ y.lives ∙ h.effects k e (sym y.thing ∙ q)
    ];
    apart = h.apart;
    stand = λ k off. ap (has_thing (the_owner k)) (sym (ap owned_of m.after) ∙ m.tree) ∙ has_made (the_owner k) (the_effect x.id) rows outer (owned_of rows) refl (h.stand k off);
  }

  pub effect_numbered : AreNumbered es noted later
  effect_numbered = subst (AreNumbered es noted) (sym m.after) effect_made

  pub effect_alive : AreAlive es (xs ++ x ∷ []) later
  effect_alive = subst (AreAlive es (xs ++ x ∷ [])) (sym m.after) (record {
    owners = λ k on. owner_still rows outer (the_effect x.id) k (a.owners k on);
    effects = all_behind (IsEffect (with_holder rows outer (the_effect x.id))) xs x
        (all_weaker (IsEffect rows) (IsEffect (with_holder rows outer (the_effect x.id))) xs (effect_still rows outer (the_effect x.id)) a.effects)
        (record {
          lives = ap (live_at (with_holder rows outer (the_effect x.id))) m.gives ∙ new_lives rows outer (the_effect x.id);
          thing = ap (thing_at (with_holder rows outer (the_effect x.id))) m.gives ∙ new_thing rows outer (the_effect x.id);
        });
  })

  pub effect_fresh : (page : ℕ) → AreFresh x.id page rows → AreFresh (x.id + 1) page later
  effect_fresh page f = record {
    effects = λ k l.
        let off : (k == x.id) ≡ false = grind (arith, nat_tests, l) in
        ap (has_thing (the_effect k)) m.tree ∙ has_made (the_effect k) (the_effect x.id) rows outer (owned_of rows) off (f.effects k (omega (arith, l)));
    pages = λ k l. ap (has_thing (the_page k)) m.tree ∙ has_made (the_page k) (the_effect x.id) rows outer (owned_of rows) refl (f.pages k l);
  }

  -- inside an owner, else at the top
  pub effect_tree : (inside : Option ℕ) → IsInside es inside outer →
      renamed (number_in es) (owned_of later) ≡ made_inside inside (the_effect x.id) (renamed (number_in es) (owned_of rows))
  effect_tree inside i =
      let g : ℕ → ℕ = number_in es in
      ap (renamed g) m.tree ∙ tree_made g (number_apart es) rows inside outer (the_effect x.id) (owned_of rows) (inside_stands g es xs things rows inside outer i h a (λ k q. refl))

  -- under an effect
  pub child_tree : (e r : ℕ) → outer ≡ Some r → thing_at rows r ≡ the_effect e →
      renamed (number_in es) (owned_of later) ≡ put_under (the_effect e) (alone (the_effect x.id)) (renamed (number_in es) (owned_of rows))
  child_tree e r is stands =
      let g : ℕ → ℕ = number_in es in
      ap (renamed g) m.tree ∙ ap (λ o. renamed g (made_in rows o (the_effect x.id) (owned_of rows))) is
      ∙ renamed_put g (number_apart es) (thing_at rows r) (alone (the_effect x.id)) (owned_of rows)
      ∙ ap (λ t. put_under (renamed_thing g t) (alone (the_effect x.id)) (renamed g (owned_of rows))) stands
