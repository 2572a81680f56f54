-- Acts one after the other.
use Rattle.std.proofs.Common.{◌≡◌, ℕ, ◌+◌, false, List, sym, ap, subst, ◌∙◌, arith}
use Rattle.signal_model.specs.Recipes.{Hosts}
use Rattle.effect_model.specs.Owners.{Thing, the_signal, the_owner, the_effect, the_page, the_watcher, Owned, nothing, thing, cleanup, is_holder}
use Rattle.effect_model.specs.Worlds as plain
use Rattle.effect_model.specs.Worlds.{at_rest}
use Rattle.effect_tables.specs.Placed.{tree_of}
use Rattle.effect_teardown.specs.Trees.{CanStand, IsFormed}
use Rattle.effect_tables.specs.Roots.{AreBare, Rests}
use Rattle.sig_effect.specs.Stores.{environment}
use Rattle.effect_world.specs.Signals.{Scene}
use Rattle.effect_world.specs.Stores.{Agrees, Does}
use Rattle.sig_effect.specs.Events.{Tells}
use Rattle.effect_world.specs.Wholes.{whole_of}
use Rattle.effect_world.proofs.Shared.{tells_both}
use Rattle.effect_world.specs.Answers.{Acted}

-- where what stands is formed, nothing stands under what can't own
none_under : (t : Thing) (made : Owned) → is_holder t ≡ false → CanStand t made → made ≡ nothing
none_under (the_owner n) made k p = cc
none_under (the_effect n) made k p = cc
none_under (the_watcher n) made k p = absurd p
none_under (the_signal n) made k p = p
none_under (the_page n) made k p = p

pub formed_bare : (h : Thing) (x : Owned) → IsFormed h x → AreBare x
formed_bare h nothing p = tt
formed_bare h (cleanup c rest) p = formed_bare h rest p.1
formed_bare h (thing t made rest) p = (λ k. none_under t made k p.0, formed_bare h rest p.2)

-- one act after the other, on a world under whose tops nothing stands that can't
pub does_then : (hosts : Hosts) (old mid new : Scene) (f g : plain.World → plain.World) → AreBare (tree_of old.world.tables) → Rests f → Rests g →
    Does hosts old.asked mid.asked old.world mid.world old.events mid.events f → Does hosts mid.asked new.asked mid.world new.world mid.events new.events g →
    Does hosts old.asked new.asked old.world new.world old.events new.events (λ w. g (f w))
does_then hosts old mid new f g bare first later a b =
    let w : plain.World = whole_of old.asked old.world in
    let inner : AreBare (f w).owned = first.bare w bare in
    record {
      whole = b.whole ∙ ap (λ v. at_rest (g v)) a.whole ∙ later.whole (f w) inner;
      told =
          subst (λ ts. Tells old.events new.events ts) (sym (later.told (f w) inner))
          (tells_both old.events mid.events new.events (f w).told (g (at_rest (f w))).told a.told
          (subst (λ (v : plain.World). Tells mid.events new.events (g v).told) a.whole b.told));
      sound = b.sound;
    }

pub acted_then : (slacks : List ℕ) (old mid new : Scene) (first between last : Hosts → Type 0) (n m : ℕ) (f g : plain.Environment → plain.World → plain.World) → Agrees old.asked old.world →
    ((env : plain.Environment) → Rests (f env)) → ((env : plain.Environment) → Rests (g env)) → Acted slacks old mid first between n f → Acted slacks mid new between last m g →
    Acted slacks old new first last (n + m) (λ env w. g env (f env w))
acted_then slacks old mid new first between last n m f g agrees one other a b =
    let most_a = a.most in
    let most_b = b.most in
    let worn_a = a.worn in
    let worn_b = b.worn in
    let told_a = a.told in
    let told_b = b.told in
    record {
      does = λ hosts sound.
          let env : plain.Environment = environment hosts slacks in
          let done : Does hosts old.asked mid.asked old.world mid.world old.events mid.events (f env) = a.does hosts sound in
          does_then hosts old mid new (f env) (g env) (formed_bare (the_owner 0) (tree_of old.world.tables) agrees.owned.formed.formed) (one env) (other env) done (b.does hosts done.sound);
      agrees = b.agrees;
      answers = λ hosts all. b.answers hosts (a.answers hosts all);
      most = omega (arith, most_a, most_b);
      rules = λ count h. b.rules count (a.rules count h);
      given = b.given ∙ a.given;
      made = b.made ∙ a.made;
      worn = omega (arith, worn_a, worn_b);
      told = omega (arith, told_a, told_b);
    }
