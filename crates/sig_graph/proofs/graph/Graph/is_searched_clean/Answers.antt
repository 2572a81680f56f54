use Rattle.std.proofs.Common.{◌<◌, ℕ, List, sym, ap, ◌∙◌, refl, subst}
use Rattle.signal_model.specs.Signals.{is_computed, standing}
use Rattle.signal_model.specs.Marks.{is_due}
use Rattle.mark_laws.specs.Marked.{without_marks}
use Rattle.sig_marks.specs.Tables.{marked_at}
use Rattle.sig_graph.specs.States.{Seen}
use Rattle.sig_graph.specs.Search.{search_unmarks}
use Rattle.sig_graph.proofs.Consistency.{computed_here, live_below}
use Rattle.sig_graph.proofs.KeptMarks.{same_table, searched_kept}
use Rattle.sig_graph.proofs.Searches.{seats_apart}
use Rattle.sig_graph.proofs.graph.Graph.is_searched_clean.Goals as goal

pub finds_below-requires-clause-calm : goal.finds_below-requires-clause-calm
finds_below-requires-clause-calm c = ap (λ (s : Seen). is_due s.state.signals s.state.memos c.args.id) c.self.view_is ∙ c.requires.calm

pub finds_below-requires-clause-can : goal.finds_below-requires-clause-can
finds_below-requires-clause-can c = record {
  live = computed_here c.self.inside.nodes.items c.args.id (ap (λ (s : Seen). is_computed (standing s.state.signals c.args.id)) c.self.view_is ∙ c.requires.live);
  marks = c.self.invariant.marks;
  seats = seats_apart c.self.inside.nodes.items c.self.inside.seats c.self.inside.generation c.self.inside.worn c.self.invariant.fields;
  kept = c.self.invariant.found;
}

pub unmark_reached-requires-clause-stands : goal.unmark_reached-requires-clause-stands
unmark_reached-requires-clause-stands c = λ seat n has. c.self.invariant.marks.standing.live n (c.self.invariant.fields.living seat n has).0

pub unmark_reached-requires-clause-places : goal.unmark_reached-requires-clause-places
unmark_reached-requires-clause-places c = λ seat n has. subst (λ l. n < l) (sym c.self.invariant.marks.flags) (live_below c.self.inside.nodes.items n (c.self.invariant.fields.living seat n has).0)

pub invariant_of-self : goal.invariant_of-self
invariant_of-self c = record {
  fields = c.self.invariant.fields;
  marks = c.self.invariant.marks;
  found = c.finds_below.ensures.kept;
}

pub invariant_of-self-2 : goal.invariant_of-self-2
invariant_of-self-2 c =
    let xs = c.self.inside.nodes.items in
    let g = c.self.inside.generation in
    let t = c.self.inside.marks in
    let seats = c.self.inside.seats in
    let reached = c.finds_below.new.reached in
    let e = c.finds_below.ensures.reached c.if-finds_below.false in
    let took = c.unmark_reached.ensures in
    record {
      fields = c.self.invariant.fields;
      marks = same_table xs g c.unmark_reached.new.marks t.dependants c.unmark_reached.new.marks.marked t.stands took.dependants refl took.stands
          (searched_kept xs seats g c.self.inside.worn t reached c.unmark_reached.new.marks.marked c.self.invariant.fields e took.size
          (λ m. took.marks m
          ∙ ap (λ (ss : List ℕ). without_marks (marked_at t.marked) (search_unmarks xs ss seats.holders) m) c.seats.ensures) c.self.invariant.marks);
      found = c.finds_below.ensures.kept;
    }
