use Rattle.template_rows.proofs.Cells.{cells_can}
use Rattle.template_rows.proofs.scene.Scene.of_numbers.Goals as goal

pub returns-clause-can : goal.returns-clause-can
returns-clause-can g c =
    cells_can c.in_ok-graph.graph c.add_cell.new.self c.add_cell-2.new.self _ _ _ _ _ c.in_ok-graph.ensures.state c.in_ok-first.ensures.after.state
    c.in_ok-second.ensures.after.state c.in_ok-shelf.ensures.asked
