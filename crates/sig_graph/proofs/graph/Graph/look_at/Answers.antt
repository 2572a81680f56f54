use Rattle.std.proofs.Common.{subst}
use Rattle.sig_graph.specs.SourceLooks.{IsSignalLook}
use Rattle.sig_graph.specs.States.{Seen}
use Rattle.sig_graph.proofs.KeptLooks.{signal_found}
use Rattle.sig_graph.proofs.Searches.{seats_apart}
use Rattle.sig_graph.proofs.graph.Graph.look_at.Goals as goal

pub signal_look-requires-clause-seats : goal.signal_look-requires-clause-seats
signal_look-requires-clause-seats c =
    seats_apart c.self.inside.nodes.items c.self.inside.seats c.self.inside.generation c.self.inside.worn c.self.invariant.fields

pub returns : goal.returns
returns c =
    subst (λ (s : Seen). IsSignalLook s.state c.args.id c.signal_look.result) c.self.view_is
    (signal_found c.self.inside.nodes.items c.self.inside.generation c.self.inside.looked c.self.inside.worn c.args.id c.signal_look.result c.signal_look.ensures)
