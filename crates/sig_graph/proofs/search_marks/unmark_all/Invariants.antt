use Rattle.std.proofs.Common.{◌≡◌, ℕ, drop, length}
use Rattle.mark_laws.specs.Marked.{without_marks}
use Rattle.sig_marks.specs.Tables.{marked_at}
use Rattle.sig_graph.specs.Search.{is_seated}
use Rattle.sig_graph.proofs.search_marks.unmark_all.Given as goal

abbrev pub invariant-loop-seat : goal.invariant-loop-seat
invariant-loop-seat l = record {
  marks : (n : ℕ) → without_marks (marked_at l.marks.marked) (is_seated (drop l.seat-index l.reached) l.seats.holders) n ≡
      without_marks (marked_at l.fn.marks.marked) (is_seated l.reached l.seats.holders) n;
  size : length l.marks.marked ≡ length l.fn.marks.marked;
  dependants : l.marks.dependants ≡ l.fn.marks.dependants;
  stands : l.marks.stands ≡ l.fn.marks.stands;
}
