use Rattle.std.proofs.Common.{length, sym, ap, ◌∙◌}
use Rattle.std.specs.Prelude.{slice_get}
use Rattle.signal_model.specs.Signals.{standing}
use Rattle.sig_nodes.specs.Answers.{slots_here}
use Rattle.sig_graph.specs.States.{Seen}
use Rattle.sig_nodes.specs.Nodes.{body_at, slots_body}
use Rattle.sig_graph.specs.Parts.{state_of}
use Rattle.sig_graph.proofs.graph.Graph.slot.Goals as goal
use Rattle.sig_graph.proofs.Lookups.{slot_below, slots_found}

pub returns-clause-at : goal.returns-clause-at
returns-clause-at c =
    c.slot_at.ensures
    ∙ ap (λ ns. slice_get ns c.args.slot) (sym (slots_found c.self.inside.nodes.items c.args.id)) ∙ ap (λ (s : Seen). slice_get (slots_here (standing s.state.signals c.args.id)) c.args.slot) c.self.view_is

pub returns-clause-given : goal.returns-clause-given
returns-clause-given c =
    slot_below c.args.self.now (state_of c.self.inside.nodes.items c.self.inside.generation c.self.inside.looked c.self.inside.worn) c.self.inside.seats.holders (length c.self.inside.nodes.items)
    (slots_body (body_at c.self.inside.nodes.items c.args.id)) c.args.slot c.slot_at.result c.self.view_is (c.self.invariant.fields.slots c.args.id)
    c.slot_at.ensures
