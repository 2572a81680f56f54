use Rattle.sig_graph.specs.States.{is_given}
use Rattle.sig_graph.proofs.Shared.{given_made, given_more}
use Rattle.graph_rows.proofs.Ones.{one_passes}
use Rattle.graph_rows.proofs.watchers.a_computed_is_reached.Goals as goal

pub add_computed-requires-clause-given : goal.add_computed-requires-clause-given
add_computed-requires-clause-given c =
    one_passes (is_given c.add_cell.new.self) c.in_ok-a.a c.in_ok-slots.slots.items c.in_ok-slots.ensures (given_made _ _ _ _ c.in_ok-a.ensures.after)

pub reaches-requires-clause-given : goal.reaches-requires-clause-given
reaches-requires-clause-given c = given_more _ _ _ _ c.in_ok-b.ensures.after c.in_ok-a.a (given_made _ _ _ _ c.in_ok-a.ensures.after)
