-- The tables before anything was made.
use Rattle.std.proofs.Common.{◌≡◌, [], map, length, sym, ap, subst, ◌∙◌}
use Rattle.std.specs.List.{AllByRecursion}
use Rattle.effect_model.specs.Owners.{nothing, the_effect, the_owner, the_page}
use Rattle.effect_model.specs.Worlds.{World}
use Rattle.sig_owner.specs.Renames.{renamed}
use Rattle.sig_owner.specs.Trees.{has_thing, owned_of}
use Rattle.effect_tables.specs.declared.tables.Tables.{Tables}
use Rattle.effect_tables.specs.Scripts.{IsFitted}
use Rattle.effect_tables.specs.Consistency.{AreAlive, AreNumbered, AreOrdered, TablesAgree}
use Rattle.effect_tables.specs.Things.{noted}
use Rattle.effect_tables.specs.Owners.{living, number_in}
use Rattle.effect_tables.specs.Placed.{effect_of, placed, untouched}

-- nothing is in the tables
pub record AreBare (t : Tables) : Type 0 where
  pub store : t.store ≡ []
  pub tree : owned_of t.store ≡ nothing
  pub owners : t.owners.items ≡ []
  pub effects : t.effects.items ≡ []
  pub pages : t.pages.items ≡ []
  pub effects_made : t.effects_made ≡ 0
  pub pages_made : t.pages_made ≡ 0

pub bare_placed : (t : Tables) → AreBare t → (w : World) → placed t w ≡ untouched w
bare_placed t b w = λ i. record w {
  owners = living 0 (b.owners i);
  effects = map effect_of (b.effects i);
  pages = b.pages i;
  owned = renamed (number_in (b.owners i)) (b.tree i);
  made = record (w.made) { owners = length (b.owners i); effects = b.effects_made i; pages = b.pages_made i };
}

pub bare_holds : (t : Tables) → AreBare t → TablesAgree t
bare_holds t b =
    let tree : owned_of [] ≡ nothing = ap owned_of (sym b.store) ∙ b.tree in
    record {
      numbered = subst (λ x. x) (λ i. AreNumbered (sym b.owners i) (noted t.things) (sym b.store i))
          (record { named = λ k q. cc; known = λ k q. cc; effects = λ k e q. cc; apart = tt; stand = λ m off. ap (has_thing (the_owner m)) tree });
      alive = subst (λ x. x) (λ i. AreAlive (sym b.owners i) (sym b.effects i) (sym b.store i)) (record { owners = λ k q. cc; effects = tt });
      fresh = record { effects = λ n l. ap (has_thing (the_effect n)) b.tree; pages = λ n l. ap (has_thing (the_page n)) b.tree };
      ordered = subst (AreOrdered t.effects_made) (sym b.effects) (record { rising = tt; below = tt });
      fitting = subst (AllByRecursion IsFitted) (sym b.effects) tt;
    }
