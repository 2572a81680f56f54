use Rattle.std.proofs.Common.{◌≡◌, ◌<◌, Bool, true, List, sym, ◌∙◌, subst}
use Rattle.std.specs.Prelude.{get_or}
use Rattle.sig_marks.specs.Tables.{marked_at, stands_at}
use Rattle.sig_graph.proofs.ReachedSeats.{unmarked_step}
use Rattle.sig_graph.proofs.search_marks.unmark_all.Goals as goal

pub unmark_holder-requires-clause-stands : goal.unmark_holder-requires-clause-stands
unmark_holder-requires-clause-stands c = λ n has.
    subst (λ (ss : List Bool). stands_at ss n ≡ true) (sym c.loop-seat.invariant.stands) (c.requires.stands (get_or c.args.reached.now c.loop-seat.seat-index 0) n has)

pub unmark_holder-requires-clause-places : goal.unmark_holder-requires-clause-places
unmark_holder-requires-clause-places c = λ n has. subst (λ l. n < l) (sym c.loop-seat.invariant.size) (c.requires.places (get_or c.args.reached.now c.loop-seat.seat-index 0) n has)

pub loop-seat-preserved : goal.loop-seat-preserved
loop-seat-preserved c =
    let step = c.unmark_holder.ensures in
    let inv = c.loop-seat.invariant in
    record {
      marks = λ n. unmarked_step c.args.reached.now c.args.seats.now.holders c.loop-seat.seat-index n (marked_at c.loop-seat.marks.marked) (marked_at c.unmark_holder.new.marks.marked) c.loop-seat-test.true (step.marks n) ∙ inv.marks n;
      size = step.size ∙ inv.size;
      dependants = step.dependants ∙ inv.dependants;
      stands = step.stands ∙ inv.stands;
    }
