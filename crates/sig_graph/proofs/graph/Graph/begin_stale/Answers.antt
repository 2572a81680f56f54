use Rattle.std.proofs.Common.{ap, ◌∙◌}
use Rattle.sig_graph.specs.States.{progress_at, Seen, with_look}
use Rattle.sig_graph.specs.Parts.{state_of}
use Rattle.sig_graph.proofs.graph.Graph.begin_stale.Goals as goal

pub returns-clause-after : goal.returns-clause-after
returns-clause-after c =
    let xs = c.self.inside.nodes.items in
    let g = c.self.inside.generation in
    let w = c.self.inside.worn in
    record {
      state = ap (λ l. state_of xs g l w) c.count.ensures ∙ ap (λ (s : Seen). with_look s.state) c.self.view_is ∙ ap with_look c.begun_stale-stale.ensures.after.state;
      given = ap (λ (s : Seen). s.given) c.self.view_is ∙ c.begun_stale-stale.ensures.after.given;
    }

pub returns-clause-begun : goal.returns-clause-begun
returns-clause-begun c = ap (λ (s : Seen). progress_at c.args.id s.state.progress) c.self.view_is ∙ c.begun_stale-stale.ensures.begun

pub returns-clause-seats : goal.returns-clause-seats
returns-clause-seats c = ap (λ (s : Seen). s.seats) c.self.view_is ∙ c.begun_stale-stale.ensures.seats
