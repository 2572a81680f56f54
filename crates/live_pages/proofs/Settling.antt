-- What settling the names that a template reads leaves of the world.
use Rattle.std.proofs.Common.{◌≡◌, ◌<◌, ◌^◌, ℕ, [], List, length, map, arith, refl, ap, subst}
use Rattle.std.proofs.lemmas.List.{length-map}
use Rattle.signal_model.specs.Recipes.{Hosts}
use Rattle.effect_model.specs.Worlds.{settle}
use Rattle.sig_host.specs.Hosts.{HostPlace}
use Rattle.sig_graph.specs.States.{Seen}
use Rattle.sig_computed.specs.Notes.{note_of, IsSettling}
use Rattle.sig_computed.specs.Scenes.{scene, Settles}
use Rattle.sig_computed.specs.declared.notes.RunNote.{RunNote}
use Rattle.sig_effect.specs.Stores.{environment}
use Rattle.sig_effect.proofs.Shared.{agrees_settled, settle_does}
use Rattle.effect_world.specs.declared.world.World.{World}
use Rattle.effect_world.specs.Stores.{Agrees, Does, IsSound}
use Rattle.effect_world.specs.Wholes.{stores_of}
use Rattle.effect_tables.specs.Placed.{effect_of}
use Rattle.effect_tables.proofs.Shared.{same_heard}
use Rattle.effect_world.proofs.Shared.{owned_still, settle_done}
use Rattle.live_pages.specs.Updates.{Settled}
use Rattle.live_pages.proofs.Pages.{noted}

-- where nothing was noted before, settling was done to the world
pub settled_does : (hosts : Hosts) (slacks : List ℕ) (asked later : List HostPlace) (before after : Hosts → Type 0) (names : Hosts → List ℕ) (w : World) (g : Seen)
    (first notes : List RunNote) → first ≡ [] → Agrees asked w → Settles (scene w.graph asked first) (scene g later notes) before after names →
    before hosts → IsSound hosts asked w → Does hosts asked later w (record w { graph = g }) [] (noted notes) (settle (environment hosts slacks) (names hosts))
settled_does hosts slacks asked later before after names w g first notes none agrees s all sound =
    let new : World = record w { graph = g } in
    let d = settle_does hosts slacks asked later (stores_of w) (stores_of new) (names hosts) notes [] (noted notes) s.signals s.given refl
    (subst (λ (ns : List RunNote). IsSettling hosts w.graph.state.signals w.graph.state.memos (names hosts) (map note_of ns) (map note_of notes) g.state.memos)
    none (s.settled hosts all sound.kept))
    (s.asked hosts all sound.kept) refl (s.kept hosts all sound.kept) sound in
    settle_done hosts slacks asked later w new [] (noted notes) (names hosts) d refl agrees.owned.tables

-- and this is left
pub settled_by : (asked later : List HostPlace) (before after : Hosts → Type 0) (counted : Type 0) (names : Hosts → List ℕ) (w : World) (g : Seen)
    (first notes : List RunNote) → first ≡ [] → length notes < 2 ^ 64 → Agrees asked w → counted →
    Settles (scene w.graph asked first) (scene g later notes) before after names →
    Settled asked later w (record w { graph = g }) before after counted (2 ^ 64) (2 ^ 71)
settled_by asked later before after counted names w g first notes none few agrees counts s =
    let new : World = record w { graph = g } in
    let nothing = ap (λ (ns : List RunNote). length (map note_of ns)) none in
    let many = length-map notes note_of in
    record {
      stays = record { signals = s.signals; given = s.given; watchers = refl; tables = refl };
      agrees = record {
        signals = agrees_settled asked later (stores_of w) (stores_of new) s.signals s.idle s.there refl agrees.signals;
        owned = owned_still w new s.given refl agrees.owned;
        heard = same_heard w.graph.state.signals g.state.signals w.heard w.heard (map effect_of w.tables.effects.items) (map effect_of w.tables.effects.items) s.signals refl refl
            agrees.heard;
      };
      sound = λ hosts all sound. (settled_does hosts [] asked later before after names w g first notes none agrees s all sound).sound;
      answers = s.answers;
      counted = counts;
      worn = let a = s.worn in omega (arith, a, nothing, many, few);
      most = let a = s.most in omega (arith, a, nothing, many, few);
    }
