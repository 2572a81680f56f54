-- Two cells may be settled.
use Rattle.std.proofs.Common.{◌≡◌, List, map, sym, ap, ◌∙◌, arith}
use Rattle.signal_model.specs.Signals.{Cell}
use Rattle.sig_host.specs.Hosts.{HostPlace, most_asked, unasked_place}
use Rattle.sig_host.proofs.Shared.{most_asked-new}
use Rattle.sig_graph.specs.HostUse.{uses_host}
use Rattle.sig_graph.specs.States.{State, Seen, is_computing, no_state, with_new_cell}
use Rattle.sig_computed.specs.declared.notes.RunNote.{RunNote}
use Rattle.tpl_hearing.specs.Heard.{scene, CanSettle}

-- a new graph that two cells were put into
pub cells_can : {A : Type 0} (g h k : Seen) (asked : List HostPlace) (notes : List RunNote) (c d : Cell) (hosts : List A) → g.state ≡ no_state →
    h.state ≡ with_new_cell g.state c → k.state ≡ with_new_cell h.state d → asked ≡ map (λ _. unasked_place) hosts → CanSettle (scene k asked notes)
cells_can g h k asked notes c d hosts eg eh ek ea =
    let all : k.state ≡ with_new_cell (with_new_cell no_state c) d = ek ∙ ap (λ (s : State). with_new_cell s d) (eh ∙ ap (λ (s : State). with_new_cell s c) eg) in
    let worn : k.state.worn ≡ 2 = ap (λ (s : State). s.worn) all in
    let room : most_asked asked ≡ 0 = ap most_asked ea ∙ most_asked-new hosts in
    record {
      idle = λ n. ap (λ (s : State). is_computing s n) all;
      there = record { each = λ place on. cc (sym on ∙ ap (λ (s : State). uses_host s.signals place) all) };
      worn = omega (arith, worn);
      room = omega (arith, room);
    }
