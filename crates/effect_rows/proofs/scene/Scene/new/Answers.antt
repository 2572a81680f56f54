use Rattle.effect_rows.proofs.Cells.{cells_can}
use Rattle.effect_rows.proofs.scene.Scene.new.Goals as goal

pub returns-clause-can : goal.returns-clause-can
returns-clause-can g c =
    cells_can c.in_ok-graph.graph c.add_cell.new.self c.add_cell-2.new.self _ _ _ c.in_ok-first.first c.in_ok-second.second _ _ _ _ c.in_ok-graph.ensures.state
    c.in_ok-first.ensures.after c.in_ok-second.ensures.after c.in_ok-shelf.ensures.asked
