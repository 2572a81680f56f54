use Rattle.std.proofs.Common.{sym, ap, ◌∙◌}
use Rattle.sig_graph.specs.HostUse.{uses_host}
use Rattle.sig_graph.specs.States.{Seen}
use Rattle.sig_graph.proofs.Lookups.{uses_found}
use Rattle.sig_graph.proofs.Seated.{holders_ask}
use Rattle.sig_graph.proofs.graph.Graph.uses_host.Goals as goal

pub returns : goal.returns
returns c =
    c.uses_host.ensures ∙ holders_ask c.args.place c.self.inside.nodes.items c.self.inside.seats.holders c.self.invariant.fields.seated
    ∙ sym (uses_found c.args.place c.self.inside.nodes.items) ∙ ap (λ (s : Seen). uses_host s.state.signals c.args.place) c.self.view_is
