-- What is left where a signal or a page is put under an owner.
use Rattle.std.proofs.Common.{◌≡◌, ℕ, ◌≤◌, ◌||◌, false, cond, List, Option, Some, None, refl, sym, ap, subst, ◌∙◌}
use Rattle.effect_model.specs.Owners.{Thing, the_owner, the_effect, the_page, Owned, nothing, thing, alone, made_inside, put_under, same_thing}
use Rattle.effect_model.specs.Owners.{is_holder, listed}
use Rattle.sig_owner.specs.Tables.{Row, changed_at, leaf, live_at, thing_at, with_item}
use Rattle.sig_owner.specs.Renames.{renamed, renamed_thing}
use Rattle.sig_owner.specs.Trees.{has_thing, owned_of}
use Rattle.sig_owner.proofs.Shared.{has_put, item_lives, item_thing, renamed_put}
use Rattle.effect_tables.specs.declared.effect.Effect.{Effect}
use Rattle.effect_tables.specs.declared.thing.Thing.{Thing as AThing}
use Rattle.effect_tables.specs.Children.{Adopts, put_in}
use Rattle.effect_tables.specs.Consistency.{AreAlive, AreFresh, AreNumbered, IsEffect, IsKnown}
use Rattle.effect_tables.specs.Owners.{number_in}
use Rattle.effect_tables.proofs.Creations.{Stands}
use Rattle.effect_tables.proofs.Rows.{all_weaker}

-- nothing is put where nobody is to own it
pub adopts_none : (rows : List Row) (t : Thing) → Adopts rows rows None t
adopts_none rows t = record { things = λ k. refl; lives = λ k. refl; tree = refl }

pub adopts_some : (rows later : List Row) (r : ℕ) (t : Thing) → later ≡ changed_at (with_item (leaf t)) r rows → owned_of later ≡ put_under (thing_at rows r) (alone t) (owned_of rows) →
    Adopts rows later (Some r) t
adopts_some rows later r t after tree = record {
  things = λ k. ap (λ rs. thing_at rs k) after ∙ item_thing (leaf t) r k rows;
  lives = λ k. ap (λ rs. live_at rs k) after ∙ item_lives (leaf t) r k rows;
  tree = tree;
}

-- what stands nowhere stands nowhere after another was put there
pub has_in : (t u : Thing) (rows : List Row) (outer : Option ℕ) (x : Owned) → same_thing t u ≡ false → has_thing t x ≡ false → has_thing t (put_in rows outer u x) ≡ false
has_in t u rows None x p q = q
has_in t u rows (Some r) x p q = has_put t (thing_at rows r) (alone u) x (ap (λ b. b || false) p) q

-- the tree, but for what stands at the top and can't own
pub adopted_tree : (g : ℕ → ℕ) → ((m n : ℕ) → g m ≡ g n → m ≡ n) → (rows : List Row) (inside outer : Option ℕ) (t : Thing) (x : Owned) → Stands g rows inside outer →
    is_holder t ≡ false → renamed_thing g t ≡ t → listed (renamed g (put_in rows outer t x)) ≡ listed (made_inside inside t (renamed g x))
adopted_tree g apart rows None None t x s kind same = sym (ap (λ b. cond b (thing t nothing (listed (renamed g x))) (listed (renamed g x))) kind)
adopted_tree g apart rows None (Some r) t x s kind same = absurd s
adopted_tree g apart rows (Some o) None t x s kind same = absurd s
adopted_tree g apart rows (Some o) (Some r) t x s kind same =
    ap listed (renamed_put g apart (thing_at rows r) (alone t) x ∙ (λ i. put_under (s i) (alone (same i)) (renamed g x)))

module _ (rows later : List Row) (outer : Option ℕ) (t : Thing) (a : Adopts rows later outer t) where
  pub adopted_numbered : (owners : List (Option ℕ)) (things : ℕ → Option AThing) → ((m : ℕ) → same_thing (the_owner m) t ≡ false) → AreNumbered owners things rows → AreNumbered owners things later
  adopted_numbered owners things kind h = record {
    named = λ k on. h.named k (sym (a.lives k) ∙ on) ∙ ap (renamed_thing (number_in owners)) (sym (a.things k));
    known = λ k on. subst (IsKnown owners k) (sym (a.things k)) (h.known k (sym (a.lives k) ∙ on));
    effects = λ k e q. a.lives k ∙ h.effects k e (sym (a.things k) ∙ q);
    apart = h.apart;
    stand = λ m off. ap (has_thing (the_owner m)) a.tree ∙ has_in (the_owner m) t rows outer (owned_of rows) (kind m) (h.stand m off);
  }

  pub adopted_alive : (es : List (Option ℕ)) (xs : List Effect) → AreAlive es xs rows → AreAlive es xs later
  adopted_alive es xs h = record {
    owners = λ k on. record { lives = a.lives k ∙ (h.owners k on).lives; thing = a.things k ∙ (h.owners k on).thing };
    effects = all_weaker (IsEffect rows) (IsEffect later) xs (λ x f. record { lives = a.lives x.row ∙ f.lives; thing = a.things x.row ∙ f.thing }) h.effects;
  }

  pub adopted_fresh : (effect page more : ℕ) → ((n : ℕ) → same_thing (the_effect n) t ≡ false) → ((n : ℕ) → more ≤ n → (page ≤ n) × (same_thing (the_page n) t ≡ false)) →
      AreFresh effect page rows → AreFresh effect more later
  adopted_fresh effect page more kind beyond f = record {
    effects = λ n l. ap (has_thing (the_effect n)) a.tree ∙ has_in (the_effect n) t rows outer (owned_of rows) (kind n) (f.effects n l);
    pages = λ n l. ap (has_thing (the_page n)) a.tree ∙ has_in (the_page n) t rows outer (owned_of rows) (beyond n l).1 (f.pages n (beyond n l).0);
  }
