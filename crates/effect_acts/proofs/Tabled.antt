-- What acts leave of the tables.
use Rattle.std.proofs.Common.{◌≡◌, ℕ, ◌+◌, ◌≤◌, ◌++◌, List, [], ◌∷◌, length, None, refl, sym, ap, subst, ◌∙◌, arith}
use Rattle.effect_model.specs.Bodies.{Body}
use Rattle.effect_model.specs.Owners.{Owned, alone, put_under, the_effect, the_owner, the_signal}
use Rattle.effect_model.specs.Worlds as plain
use Rattle.effect_model.specs.Worlds.{tell, at_rest}
use Rattle.sig_owner.specs.Renames.{renamed}
use Rattle.sig_owner.specs.Trees.{has_thing, owned_of}
use Rattle.effect_tables.specs.declared.heard.Heard.{Heard}
use Rattle.effect_tables.specs.declared.tables.Tables.{Tables}
use Rattle.effect_tables.specs.Children.{with_child}
use Rattle.effect_tables.specs.Consistency.{TablesAgree, LeavesOut}
use Rattle.effect_tables.specs.Owners.{number_in}
use Rattle.effect_tables.specs.Placed.{placed, tree_of}
use Rattle.effect_tables.proofs.Shared.{placed_rests}
use Rattle.effect_teardown.specs.Trees.{AreFormed}
use Rattle.effect_teardown.proofs.Shared.{formed_put}
use Rattle.sig_host.specs.Hosts.{HostPlace}
use Rattle.sig_effect.specs.Stores.{environment}
use Rattle.sig_effect.specs.Wholes as wholes
use Rattle.sig_effect.specs.declared.events.Event.{Event}
use Rattle.effect_world.specs.declared.world.World.{World}
use Rattle.effect_world.specs.Signals.{any_hosts, scene}
use Rattle.effect_world.specs.Stores.{Agrees, AreOwned, Hears}
use Rattle.sig_effect.specs.Events.{IsTold, Tells}
use Rattle.effect_world.specs.Wholes.{stores_of, whole_of}
use Rattle.effect_world.proofs.Shared.{one_told, tells_one}
use Rattle.effect_world.specs.Answers.{Acted}

-- the tables were changed, and one event told
pub acted_tabled : (slacks : List ℕ) (old : World) (u : Tables) (h : Heard) (asked : List HostPlace) (before after : List Event) (ev : Event) (t : plain.Event)
    (act : plain.Environment → plain.World → plain.World) (change : plain.World → plain.World) → ((w : plain.World) → placed u w ≡ change (placed old.tables w)) →
    ((env : plain.Environment) → act env (whole_of asked old) ≡ tell t (change (whole_of asked old))) → (change (whole_of asked old)).told ≡ [] → IsTold ev t → after ≡ before ++ ev ∷ [] →
    u.effects_made ≤ old.tables.effects_made + 1 → AreOwned (record old { tables = u }) → Hears (record old { tables = u; heard = h }) → Agrees asked old →
    Acted slacks (scene old asked before) (scene (record old { tables = u; heard = h }) asked after) any_hosts any_hosts 0 act
acted_tabled slacks old u h asked before after ev t act change does is quiet one more few owned heard a =
    let s : plain.World = wholes.whole_of asked (stores_of old) in
    record {
      does = λ hosts sound. record {
        whole = sym (placed_rests u s owned.tables) ∙ ap at_rest (does s) ∙ ap at_rest (sym (is (environment hosts slacks)));
        told = subst (λ (w : plain.World). Tells before after w.told) (sym (is (environment hosts slacks)))
            (subst (λ ts. Tells before after (ts ++ t ∷ [])) (sym quiet) (subst (λ es. Tells before es (t ∷ [])) (sym more) (tells_one before ev t one)));
        sound = sound;
      };
      agrees = record { signals = a.signals; owned = record { tables = owned.tables; formed = owned.formed; fresh = owned.fresh }; heard = heard };
      answers = λ hosts h. h;
      most = omega arith;
      rules = λ count h. h;
      given = refl;
      made = refl;
      worn = let m : length after ≡ length before + 1 = one_told before after ev more in omega (arith, m, few);
      told = let m : length after ≡ length before + 1 = one_told before after ev more in omega (arith, m);
    }

-- all stands where it stood
pub owned_kept : (old : World) (u : Tables) → u.store ≡ old.tables.store → u.owners ≡ old.tables.owners → TablesAgree u → AreOwned old → AreOwned (record old { tables = u })
owned_kept old u store owners h o =
    let tree : tree_of u ≡ tree_of old.tables = λ i. renamed (number_in (owners i).items) (owned_of (store i)) in
    record {
      tables = h;
      formed = subst AreFormed (sym tree) o.formed;
      fresh = λ n l. ap (λ rs. has_thing (the_signal n) (owned_of rs)) store ∙ o.fresh n l;
    }

-- a child stands under its parent
pub owned_child : (asked : List HostPlace) (old : World) (u : Tables) (e : ℕ) (b : Body) → ((w : plain.World) → placed u w ≡ with_child e b (placed old.tables w)) → LeavesOut None old.tables.store u.store → TablesAgree u →
    AreOwned old → AreOwned (record old { tables = u })
owned_child asked old u e b does out h o =
    let s : plain.World = wholes.whole_of asked (stores_of old) in
    let one : Owned = alone (the_effect old.tables.effects_made) in
    let tree : tree_of u ≡ put_under (the_effect e) one (tree_of old.tables) = ap (λ (w : plain.World). w.owned) (does s) in
    record {
      tables = h;
      formed = subst AreFormed (sym tree) (record { formed = formed_put (the_owner 0) (the_effect e) one (tree_of old.tables) refl (tt, tt, tt) o.formed.formed });
      fresh = λ n l. out.still n (λ q. cc) (o.fresh n l);
    }
