use Rattle.std.proofs.Common.{subst}
use Rattle.signal_model.specs.Kept.{AreGiven, OnlyComputedsKeep}
use Rattle.sig_graph.specs.States.{Seen, is_given}
use Rattle.sig_graph.specs.HostUse.{HaveFewSlots}
use Rattle.sig_seats.specs.Seats.{AreAllSeated}
use Rattle.sig_graph.proofs.Consistency.{few_here, seated_here, used_here}
use Rattle.sig_graph.proofs.Searches.{only_keep}
use Rattle.sig_graph.proofs.graph.Graph.made.Goals as goal

pub returns-clause-used : goal.returns-clause-used
returns-clause-used c =
    subst (λ (g : Seen). AreGiven (is_given g) g.state.signals g.state.memos) c.self.view_is
    (used_here c.self.inside.nodes.items c.self.inside.seats c.self.inside.generation c.self.inside.looked c.self.inside.worn c.self.inside.marks.dependants c.self.invariant.fields)

pub returns-clause-keepers : goal.returns-clause-keepers
returns-clause-keepers c =
    subst (λ (g : Seen). OnlyComputedsKeep g.state.signals g.state.memos) c.self.view_is
    (only_keep c.self.inside.nodes.items c.self.inside.generation)

pub returns-clause-few : goal.returns-clause-few
returns-clause-few c =
    subst (λ (g : Seen). HaveFewSlots g.state.signals) c.self.view_is
    (few_here c.self.inside.nodes.items c.self.inside.seats c.self.inside.generation c.self.inside.worn c.self.invariant.fields)

pub returns-clause-seats : goal.returns-clause-seats
returns-clause-seats c =
    subst (λ (g : Seen). AreAllSeated g.state.signals g.seats) c.self.view_is
    (seated_here c.self.inside.nodes.items c.self.inside.seats c.self.inside.generation c.self.inside.worn c.self.invariant.fields)
