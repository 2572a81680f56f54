use Rattle.std.proofs.Common.{◌≡◌, drop}
use Rattle.sig_graph.specs.Search.{some_seated, stays_marked}
use Rattle.sig_graph.proofs.search_marks.some_stays.Given as goal

abbrev pub invariant-loop-seat : goal.invariant-loop-seat
invariant-loop-seat l = some_seated (stays_marked l.nodes.items) (drop l.seat-index l.reached) l.seats.holders ≡ some_seated (stays_marked l.nodes.items) l.reached l.seats.holders
