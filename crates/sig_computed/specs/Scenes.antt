-- What settling names one after the other leaves of the graph, of what is known of host formulas, and of the notes.
use Rattle.std.specs.Prelude.{◌≡◌, ℕ, ◌+◌, ◌*◌, ◌<◌, ◌≤◌, ◌^◌, List, map, length}
use Rattle.signal_model.specs.Recipes.{Hosts}
use Rattle.signal_model.specs.Kept.{AreKept}
use Rattle.sig_host.specs.Hosts.{HostPlace, most_asked}
use Rattle.sig_graph.specs.States as states
use Rattle.sig_computed.specs.Asked.{AreThere, IsAsking, StayThere}
use Rattle.sig_computed.specs.Costs.{step_bound}
use Rattle.sig_computed.specs.Notes.{Note, note_of, AreNotesGiven, IsIdle, IsSettling}
use Rattle.sig_computed.specs.declared.notes.RunNote.{RunNote}

-- the graph, what is known of each host formula, and what was noted, at one moment
pub record Scene : Type 0 where
  pub graph : states.Seen
  pub asked : List HostPlace
  pub notes : List Note

-- the scene of a graph, a shelf and the notes as the code has them
abbrev pub scene : states.Seen → List HostPlace → List RunNote → Scene
scene g asked notes = record { graph = g; asked = asked; notes = map note_of notes }

-- Names may be settled: nothing is being evaluated, each host formula that a computed asks is there, and no counter has come further than a
-- quarter of its range and the notes. A run raises the graph's by one and a formula's asks by at most 65, and puts one note.
pub record CanSettle (x : Scene) : Type 0 where
  pub idle : IsIdle x.graph.state
  pub there : AreThere x.graph.state.signals x.asked
  pub worn : x.graph.state.worn < 2 ^ 126 + length x.notes
  pub room : most_asked x.asked < 2 ^ 126 + 65 * length x.notes

-- Names were settled between two scenes: what is kept, noted and asked is that of settling them, by the meanings by which the shelf answers; it
-- answers by these afterwards too, and the counted steps keep to their bound. Signals stay, nothing is being evaluated, the same host formulas are
-- there, and counters rise with the notes.
pub record Settles (old new : Scene) (before after : Hosts → Type 0) (names : Hosts → List ℕ) : Type 0 where
  pub settled : (hosts : Hosts) → before hosts → AreKept hosts old.graph.state.signals old.graph.state.memos →
      IsSettling hosts old.graph.state.signals old.graph.state.memos (names hosts) old.notes new.notes new.graph.state.memos
  pub kept : (hosts : Hosts) → before hosts → AreKept hosts old.graph.state.signals old.graph.state.memos →
      AreKept hosts new.graph.state.signals new.graph.state.memos
  pub asked : (hosts : Hosts) → before hosts → AreKept hosts old.graph.state.signals old.graph.state.memos →
      IsAsking hosts old.graph.state.signals old.graph.state.memos (names hosts) old.asked new.asked
  pub steps : (hosts : Hosts) → before hosts → AreKept hosts old.graph.state.signals old.graph.state.memos →
      new.graph.state.looked ≤ old.graph.state.looked + step_bound hosts old.graph.state.signals old.graph.state.memos (names hosts)
  pub answers : (hosts : Hosts) → before hosts → after hosts
  pub there : StayThere old.asked new.asked
  pub most : most_asked new.asked + 65 * length old.notes ≤ most_asked old.asked + 65 * length new.notes
  pub signals : new.graph.state.signals ≡ old.graph.state.signals
  pub idle : IsIdle new.graph.state
  pub seats : new.graph.seats ≡ old.graph.seats
  pub given : new.graph.given ≡ old.graph.given
  pub named : AreNotesGiven old.graph old.notes → AreNotesGiven new.graph new.notes
  pub worn : new.graph.state.worn + length old.notes ≡ old.graph.state.worn + length new.notes
