-- The tables after each making.
use Rattle.std.proofs.Common.{◌≡◌, ℕ, ◌+◌, ◌≤◌, ◌==◌, ◌++◌, false, List, [], ◌∷◌, map, length, Option, Some, None, refl, sym, ap, subst, ◌∙◌, arith, inl, inr}
use Rattle.std.proofs.lemmas.Bool.{eqb-true}
use Rattle.signal_model.proofs.Shared.{tested}
use Rattle.std.proofs.lemmas.Bool.Decides.{nat_tests}
use Rattle.std.proofs.lemmas.List.{map-append}
use Rattle.std.specs.List.{AllByRecursion}
use Rattle.effect_model.specs.Bodies.{Body}
use Rattle.effect_model.specs.Owners.{the_effect, the_owner, the_page, the_signal, alone, made_inside, put_under, listed}
use Rattle.effect_model.specs.Commands.{with_new_effect, with_new_owner, with_new_page}
use Rattle.effect_model.specs.Worlds.{World, at_rest}
use Rattle.sig_owner.specs.Renames.{renamed}
use Rattle.sig_owner.specs.Tables.{thing_at}
use Rattle.sig_owner.specs.Trees.{has_thing, owned_of}
use Rattle.effect_tables.specs.declared.effect.Effect.{Effect}
use Rattle.effect_tables.specs.declared.effect.Script.{Script}
use Rattle.effect_tables.specs.declared.tables.Tables.{Tables}
use Rattle.effect_tables.specs.declared.thing.Thing.TheVariants as a
use Rattle.effect_tables.specs.Children.{Adopts, MakesEffect, MakesOwner, adopted, with_child}
use Rattle.effect_tables.specs.Scripts.{IsFitted}
use Rattle.effect_tables.specs.Consistency.{AreAlive, AreFresh, AreNumbered, AreOrdered, TablesAgree, LeavesOut}
use Rattle.effect_tables.specs.Bodies.{body_of}
use Rattle.effect_tables.specs.Locations.{IsInside}
use Rattle.effect_tables.specs.Makings.{Makes}
use Rattle.effect_tables.specs.Things.{noted}
use Rattle.effect_tables.specs.Owners.{living, number_in}
use Rattle.effect_tables.specs.Placed.{effect_of, placed, tree_of}
use Rattle.effect_tables.proofs.Adopted.{adopted_alive, adopted_fresh, adopted_numbered, adopted_tree, has_in}
use Rattle.effect_tables.proofs.Creations.{IsPut, child_tree, effect_alive, effect_fresh, effect_numbered, effect_tree, has_made, inside_stands, owner_alive, owner_fresh, owner_living, owner_numbered, owner_tree}
use Rattle.effect_tables.proofs.Numbers.{number_apart}
use Rattle.effect_tables.proofs.Ordered.{ordered_more}
use Rattle.effect_tables.proofs.Rows.{all_behind}

one_more : {A : Type 0} (xs : List A) (x : A) → length (xs ++ x ∷ []) ≡ length xs + 1
one_more [] x = omega arith
one_more (y ∷ ys) x = let e : length (ys ++ x ∷ []) ≡ length ys + 1 = one_more ys x in omega (arith, e)

-- ---- an owner

-- the tables have an owner more
pub record HasOwner (t u : Tables) (outer : Option ℕ) (n k : ℕ) : Type 0 where
  pub made : MakesOwner t.store u.store outer n
  pub number : k ≡ length t.owners.items
  pub things : IsPut (noted t.things) (noted u.things) n (a.Owner k)
  pub owners : u.owners.items ≡ t.owners.items ++ Some n ∷ []
  pub effects : u.effects ≡ t.effects
  pub pages : u.pages ≡ t.pages
  pub effects_made : u.effects_made ≡ t.effects_made
  pub pages_made : u.pages_made ≡ t.pages_made

owner_does : (t u : Tables) (inside outer : Option ℕ) (n k : ℕ) → HasOwner t u outer n k → IsInside t.owners.items inside outer → TablesAgree t →
    (w : World) → placed u w ≡ with_new_owner inside (placed t w)
owner_does t u inside outer n k m i h w =
    let tree = owner_tree t.owners.items t.effects.items (noted t.things) (noted u.things) t.store u.store inside outer n k m.made h.numbered h.alive i m.number m.things in
    λ j. record w {
      owners = (ap (living 0) m.owners ∙ owner_living t.owners.items t.effects.items (noted t.things) (noted u.things) t.store u.store inside outer n k m.made h.numbered h.alive i m.number m.things) j;
      effects = map effect_of (m.effects j).items;
      pages = (m.pages j).items;
      owned = ((λ l. renamed (number_in (m.owners l)) (owned_of u.store)) ∙ tree) j;
      made = record (w.made) { owners = (ap length m.owners ∙ one_more t.owners.items (Some n)) j; effects = m.effects_made j; pages = m.pages_made j };
    }

owner_holds : (t u : Tables) (inside outer : Option ℕ) (n k : ℕ) → HasOwner t u outer n k → IsInside t.owners.items inside outer → TablesAgree t → TablesAgree u
owner_holds t u inside outer n k m i h = record {
  numbered = subst (λ es. AreNumbered es (noted u.things) u.store) (sym m.owners) (owner_numbered t.owners.items t.effects.items (noted t.things) (noted u.things) t.store u.store inside outer n k m.made h.numbered h.alive i m.number m.things);
  alive = subst (λ x. x) (λ j. AreAlive (sym m.owners j) (sym m.effects j).items u.store) (owner_alive t.owners.items t.effects.items (noted t.things) (noted u.things) t.store u.store inside outer n k m.made h.numbered h.alive i m.number m.things);
  fresh = subst (λ x. x) (λ j. AreFresh (sym m.effects_made j) (sym m.pages_made j) u.store) (owner_fresh t.owners.items t.effects.items (noted t.things) (noted u.things) t.store u.store inside outer n k m.made h.numbered h.alive i m.number m.things t.effects_made t.pages_made h.fresh);
  ordered = subst (λ x. x) (λ j. AreOrdered (sym m.effects_made j) (sym m.effects j).items) h.ordered;
  fitting = subst (λ x. x) (λ j. AllByRecursion IsFitted (sym m.effects j).items) h.fitting;
}

owner_leaves : (t u : Tables) (outer : Option ℕ) (n : ℕ) → MakesOwner t.store u.store outer n → LeavesOut None t.store u.store
owner_leaves t u outer n m = record { still = λ k off h. ap (has_thing (the_signal k)) m.tree ∙ has_made (the_signal k) (the_owner n) t.store outer (owned_of t.store) refl h }

pub owner_makes : (t u : Tables) (inside outer : Option ℕ) (n k : ℕ) → HasOwner t u outer n k → IsInside t.owners.items inside outer → TablesAgree t →
    Makes (λ w. w) None t u (with_new_owner inside)
owner_makes t u inside outer n k m i h = record { does = owner_does t u inside outer n k m i h; holds = owner_holds t u inside outer n k m i h; signals = owner_leaves t u outer n m.made }

-- ---- an effect

-- the tables have an effect more
pub record HasEffect (t u : Tables) (outer : Option ℕ) (x : Effect) : Type 0 where
  pub made : MakesEffect t.store u.store outer x.id x.row
  pub number : x.id ≡ t.effects_made
  pub things : IsPut (noted t.things) (noted u.things) x.row (a.Effect x.id)
  pub effects : u.effects.items ≡ t.effects.items ++ x ∷ []
  pub owners : u.owners.items ≡ t.owners.items
  pub pages : u.pages ≡ t.pages
  pub fits : IsFitted x
  pub effects_made : u.effects_made ≡ t.effects_made + 1
  pub pages_made : u.pages_made ≡ t.pages_made

effect_holds : (t u : Tables) (outer : Option ℕ) (x : Effect) → HasEffect t u outer x → TablesAgree t → TablesAgree u
effect_holds t u outer x m h =
    let next : x.id + 1 ≡ u.effects_made = ap (λ k. k + 1) m.number ∙ sym m.effects_made in
    record {
      numbered = subst (λ es. AreNumbered es (noted u.things) u.store) (sym m.owners) (effect_numbered t.owners.items t.effects.items (noted t.things) (noted u.things) t.store u.store outer x m.made h.numbered h.alive m.things);
      alive = subst (λ x. x) (λ j. AreAlive (sym m.owners j) (sym m.effects j) u.store) (effect_alive t.owners.items t.effects.items (noted t.things) (noted u.things) t.store u.store outer x m.made h.numbered h.alive m.things);
      fresh = subst (λ x. x) (λ j. AreFresh (next j) (sym m.pages_made j) u.store)
          (effect_fresh t.owners.items t.effects.items (noted t.things) (noted u.things) t.store u.store outer x m.made h.numbered h.alive m.things t.pages_made
          (subst (λ k. AreFresh k t.pages_made t.store) (sym m.number) h.fresh));
      ordered = subst (λ x. x) (λ j. AreOrdered (sym m.effects_made j) (sym m.effects j)) (ordered_more t.effects_made t.effects.items x m.number h.ordered);
      fitting = subst (AllByRecursion IsFitted) (sym m.effects) (all_behind IsFitted t.effects.items x h.fitting m.fits);
    }

-- the effects with one more
effects_more : (t u : Tables) (outer : Option ℕ) (x : Effect) (b : Body) → HasEffect t u outer x → effect_of x ≡ record { number = t.effects_made; body = b; kept = None } →
    map effect_of u.effects.items ≡ map effect_of t.effects.items ++ record { number = t.effects_made; body = b; kept = None } ∷ []
effects_more t u outer x b m is = ap (map effect_of) m.effects ∙ map-append effect_of t.effects.items (x ∷ []) ∙ ap (λ y. map effect_of t.effects.items ++ y ∷ []) is

effect_does : (t u : Tables) (inside outer : Option ℕ) (x : Effect) (s : Script) → HasEffect t u outer x → effect_of x ≡ record { number = t.effects_made; body = body_of t.effects_made s []; kept = None } →
    IsInside t.owners.items inside outer → TablesAgree t → (w : World) → placed u w ≡ with_new_effect (body_of t.effects_made s []) inside (placed t w)
effect_does t u inside outer x s m is i h w =
    λ j. record w {
      owners = living 0 (m.owners j);
      effects = effects_more t u outer x (body_of t.effects_made s []) m is j;
      pages = (m.pages j).items;
      owned = ((λ l. renamed (number_in (m.owners l)) (owned_of u.store))
          ∙ effect_tree t.owners.items t.effects.items (noted t.things) (noted u.things) t.store u.store outer x m.made h.numbered h.alive m.things inside i
          ∙ ap (λ k. made_inside inside (the_effect k) (tree_of t)) m.number) j;
      made = record (w.made) { owners = length (m.owners j); effects = m.effects_made j; pages = m.pages_made j };
    }

-- a child of an effect
child_does : (t u : Tables) (e r : ℕ) (x : Effect) (b : Body) → HasEffect t u (Some r) x → effect_of x ≡ record { number = t.effects_made; body = b; kept = None } →
    thing_at t.store r ≡ the_effect e → TablesAgree t → (w : World) → placed u w ≡ with_child e b (placed t w)
child_does t u e r x b m is stands h w =
    λ j. record w {
      owners = living 0 (m.owners j);
      effects = effects_more t u (Some r) x b m is j;
      pages = (m.pages j).items;
      owned = ((λ l. renamed (number_in (m.owners l)) (owned_of u.store))
          ∙ child_tree t.owners.items t.effects.items (noted t.things) (noted u.things) t.store u.store (Some r) x m.made h.numbered h.alive m.things e r refl stands
          ∙ ap (λ k. put_under (the_effect e) (alone (the_effect k)) (tree_of t)) m.number) j;
      made = record (w.made) { owners = length (m.owners j); effects = m.effects_made j; pages = m.pages_made j };
    }

effect_leaves : (t u : Tables) (outer : Option ℕ) (e n : ℕ) → MakesEffect t.store u.store outer e n → LeavesOut None t.store u.store
effect_leaves t u outer e n m = record { still = λ k off h. ap (has_thing (the_signal k)) m.tree ∙ has_made (the_signal k) (the_effect e) t.store outer (owned_of t.store) refl h }

pub effect_makes : (t u : Tables) (inside outer : Option ℕ) (x : Effect) (s : Script) → HasEffect t u outer x → effect_of x ≡ record { number = t.effects_made; body = body_of t.effects_made s []; kept = None } →
    IsInside t.owners.items inside outer → TablesAgree t → Makes (λ w. w) None t u (with_new_effect (body_of t.effects_made s []) inside)
effect_makes t u inside outer x s m is i h = record { does = effect_does t u inside outer x s m is i h; holds = effect_holds t u outer x m h; signals = effect_leaves t u outer x.id x.row m.made }

pub child_makes : (t u : Tables) (e r : ℕ) (x : Effect) (b : Body) → HasEffect t u (Some r) x → effect_of x ≡ record { number = t.effects_made; body = b; kept = None } →
    thing_at t.store r ≡ the_effect e → TablesAgree t → Makes (λ w. w) None t u (with_child e b)
child_makes t u e r x b m is stands h = record { does = child_does t u e r x b m is stands h; holds = effect_holds t u (Some r) x m h; signals = effect_leaves t u (Some r) x.id x.row m.made }

-- ---- a page

-- the tables have a page more
pub record HasPage (t u : Tables) (outer : Option ℕ) (n : ℕ) : Type 0 where
  pub adopts : Adopts t.store u.store outer (the_page n)
  pub number : n ≡ t.pages_made
  pub pages : u.pages.items ≡ t.pages.items ++ n ∷ []
  pub things : u.things ≡ t.things
  pub owners : u.owners.items ≡ t.owners.items
  pub effects : u.effects ≡ t.effects
  pub effects_made : u.effects_made ≡ t.effects_made
  pub pages_made : u.pages_made ≡ t.pages_made + 1

page_holds : (t u : Tables) (outer : Option ℕ) (n : ℕ) → HasPage t u outer n → TablesAgree t → TablesAgree u
page_holds t u outer n m h = record {
  numbered = subst (λ x. x) (λ j. AreNumbered (sym m.owners j) (noted (sym m.things j)) u.store)
      (adopted_numbered t.store u.store outer (the_page n) m.adopts t.owners.items (noted t.things) (λ k. refl) h.numbered);
  alive = subst (λ x. x) (λ j. AreAlive (sym m.owners j) (sym m.effects j).items u.store)
      (adopted_alive t.store u.store outer (the_page n) m.adopts t.owners.items t.effects.items h.alive);
  fresh = subst (λ x. x) (λ j. AreFresh (sym m.effects_made j) (sym m.pages_made j) u.store)
      (adopted_fresh t.store u.store outer (the_page n) m.adopts t.effects_made t.pages_made (t.pages_made + 1) (λ k. refl) (λ k l. beyond k l) h.fresh);
  ordered = subst (λ x. x) (λ j. AreOrdered (sym m.effects_made j) (sym m.effects j).items) h.ordered;
  fitting = subst (λ x. x) (λ j. AllByRecursion IsFitted (sym m.effects j).items) h.fitting;
}
  where
    beyond : (k : ℕ) → t.pages_made + 1 ≤ k → (t.pages_made ≤ k) × ((k == n) ≡ false)
    beyond k l = let e : n ≡ t.pages_made = m.number in (omega (arith, l), grind (arith, nat_tests, l, e))

page_does : (t u : Tables) (inside outer : Option ℕ) (n : ℕ) → HasPage t u outer n → IsInside t.owners.items inside outer → TablesAgree t →
    (w : World) → at_rest (placed u w) ≡ at_rest (with_new_page inside (placed t w))
page_does t u inside outer n m i h w =
    let g : ℕ → ℕ = number_in t.owners.items in
    λ j. record w {
      owners = living 0 (m.owners j);
      effects = map effect_of (m.effects j).items;
      pages = (m.pages ∙ ap (λ k. t.pages.items ++ k ∷ []) m.number) j;
      owned = ((λ l. listed (renamed (number_in (m.owners l)) (owned_of u.store))) ∙ ap (λ x. listed (renamed g x)) m.adopts.tree
          ∙ adopted_tree g (number_apart t.owners.items) t.store inside outer (the_page n) (owned_of t.store)
          (inside_stands g t.owners.items t.effects.items (noted t.things) t.store inside outer i h.numbered h.alive (λ k q. refl)) refl refl
          ∙ ap (λ k. listed (made_inside inside (the_page k) (tree_of t))) m.number) j;
      made = record (w.made) { owners = length (m.owners j); effects = m.effects_made j; pages = m.pages_made j };
      told = [];
    }

page_leaves : (t u : Tables) (outer : Option ℕ) (n : ℕ) → Adopts t.store u.store outer (the_page n) → LeavesOut None t.store u.store
page_leaves t u outer n m = record { still = λ k off h. ap (has_thing (the_signal k)) m.tree ∙ has_in (the_signal k) (the_page n) t.store outer (owned_of t.store) refl h }

pub page_makes : (t u : Tables) (inside outer : Option ℕ) (n : ℕ) → HasPage t u outer n → IsInside t.owners.items inside outer → TablesAgree t → Makes at_rest None t u (with_new_page inside)
page_makes t u inside outer n m i h = record { does = page_does t u inside outer n m i h; holds = page_holds t u outer n m h; signals = page_leaves t u outer n m.adopts }

-- ---- a signal

module _ (t u : Tables) (outer : Option ℕ) (n : ℕ) (m : Adopts t.store u.store outer (the_signal n)) (same : u ≡ record t { store = u.store }) where
  signal_holds : TablesAgree t → TablesAgree u
  signal_holds h = subst TablesAgree (sym same) (record {
    numbered = adopted_numbered t.store u.store outer (the_signal n) m t.owners.items (noted t.things) (λ k. refl) h.numbered;
    alive = adopted_alive t.store u.store outer (the_signal n) m t.owners.items t.effects.items h.alive;
    fresh = adopted_fresh t.store u.store outer (the_signal n) m t.effects_made t.pages_made t.pages_made (λ k. refl) (λ k l. (l, refl)) h.fresh;
    ordered = h.ordered;
    fitting = h.fitting;
  })

  signal_does : (inside : Option ℕ) → IsInside t.owners.items inside outer → TablesAgree t → (w : World) → at_rest (placed u w) ≡ at_rest (adopted n inside (placed t w))
  signal_does inside i h w =
      let g : ℕ → ℕ = number_in t.owners.items in
      ap (λ (v : Tables). at_rest (placed v w)) same
      ∙ (λ j. record (placed t w) {
        owned = (ap (λ x. listed (renamed g x)) m.tree ∙ adopted_tree g (number_apart t.owners.items) t.store inside outer (the_signal n) (owned_of t.store)
            (inside_stands g t.owners.items t.effects.items (noted t.things) t.store inside outer i h.numbered h.alive (λ k q. refl)) refl refl) j;
        told = [];
      })

  signal_leaves : LeavesOut (Some n) t.store u.store
  signal_leaves = record { still = λ k off h. ap (has_thing (the_signal k)) m.tree ∙ has_in (the_signal k) (the_signal n) t.store outer (owned_of t.store) (other k off) h }
    where
      other : (k : ℕ) → (Some n ≡ Some k → ⊥) → (k == n) ≡ false
      other k off = elim (tested (k == n)) [
        | inl e ↦ absurd (off (ap Some (sym (eqb-true k n e))))
        | inr e ↦ e
      ]

  pub signal_makes : (inside : Option ℕ) → IsInside t.owners.items inside outer → TablesAgree t → Makes at_rest (Some n) t u (adopted n inside)
  signal_makes inside i h = record { does = signal_does inside i h; holds = signal_holds h; signals = signal_leaves }
