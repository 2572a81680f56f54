use Rattle.std.proofs.Common.{◌≡◌, true, subst}
use Rattle.std.specs.Prelude.{IfSome}
use Rattle.signal_model.specs.Signals.{is_there, standing}
use Rattle.sig_graph.specs.States.{Seen}
use Rattle.sig_graph.proofs.graph.Graph.at_seat.Goals as goal
use Rattle.sig_graph.proofs.Lookups.{holder_lives}

pub returns-clause-live : goal.returns-clause-live
returns-clause-live c =
    subst (λ (s : Seen). IfSome c.holder.result (λ id. is_there (standing s.state.signals id) ≡ true)) c.self.view_is
    (holder_lives c.self.inside.nodes.items c.self.inside.seats c.self.inside.generation c.self.inside.worn c.args.seat c.holder.result c.self.invariant.fields c.holder.ensures)
