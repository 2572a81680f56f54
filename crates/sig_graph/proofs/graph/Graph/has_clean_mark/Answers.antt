use Rattle.std.proofs.Common.{ap, ◌∙◌}
use Rattle.signal_model.specs.Signals.{is_computed, standing}
use Rattle.sig_graph.specs.States.{Seen}
use Rattle.sig_graph.proofs.Consistency.{computed_here}
use Rattle.sig_graph.proofs.Searches.{seats_apart}
use Rattle.sig_graph.proofs.graph.Graph.has_clean_mark.Goals as goal

pub told_clean-told-requires : goal.told_clean-told-requires
told_clean-told-requires c = record {
  live = computed_here c.self.inside.nodes.items c.args.id (ap (λ (s : Seen). is_computed (standing s.state.signals c.args.id)) c.self.view_is ∙ c.requires);
  marks = c.self.invariant.marks;
  seats = seats_apart c.self.inside.nodes.items c.self.inside.seats c.self.inside.generation c.self.inside.worn c.self.invariant.fields;
  kept = c.self.invariant.found;
}
