-- Two cells may be settled.
use Rattle.std.proofs.Common.{◌≡◌, ◌+◌, ℕ, List, map, Option, ap, refl, ◌∙◌, arith}
use Rattle.sig_base.specs.declared.value.Value.{Value}
use Rattle.sig_host.specs.Hosts.{HostPlace, most_asked, unasked_place}
use Rattle.sig_host.proofs.Shared.{most_asked-new}
use Rattle.sig_graph.specs.States.{Makes, Seen, State, no_state, with_new_cell}
use Rattle.sig_watcher.specs.Tables.{no_watchers}
use Rattle.sig_computed.specs.declared.notes.RunNote.{RunNote}
use Rattle.sig_computed.specs.Scenes.{scene, CanSettle}
use Rattle.sig_effect.specs.Stores.{Agrees}
use Rattle.sig_effect.specs.Wholes.{SignalStores}
use Rattle.sig_effect.proofs.Shared.{cell_agrees, new_agrees}

-- a graph, which nobody watches
abbrev unwatched : Seen → SignalStores
unwatched g = record { graph = g; watchers = no_watchers }

-- a new graph that two cells were put into
pub cells_can : {A : Type 0} (t v w : Seen) (asked : List HostPlace) (notes : List RunNote) (hosts : List A) (n m : ℕ) (x y : Value) (p q : Option ℕ) → t.state ≡ no_state →
    Makes t v n (with_new_cell t.state (record { name = n; value = x; rule = p })) → Makes v w m (with_new_cell v.state (record { name = m; value = y; rule = q })) →
    asked ≡ map (λ _. unasked_place) hosts → CanSettle (scene w asked notes)
cells_can t v w asked notes hosts n m x y p q none first second ea =
    let room : most_asked asked ≡ 0 = ap most_asked ea ∙ most_asked-new hosts in
    let agrees : Agrees asked (unwatched w) =
    cell_agrees asked (unwatched v) (unwatched w) y q m second refl
    (cell_agrees asked (unwatched t) (unwatched v) x p n first refl (new_agrees asked t no_watchers none refl)) in
    let e : t.state.worn ≡ 0 = ap (λ (s : State). s.worn) none in
    let f : v.state.worn ≡ t.state.worn + 1 = ap (λ (s : State). s.worn) first.state in
    let g : w.state.worn ≡ v.state.worn + 1 = ap (λ (s : State). s.worn) second.state in
    record {
      idle = agrees.idle;
      there = agrees.there;
      worn = omega (arith, e, f, g);
      room = omega (arith, room);
    }
