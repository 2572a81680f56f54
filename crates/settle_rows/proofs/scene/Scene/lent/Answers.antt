use Rattle.settle_rows.proofs.Scenes.{first_ready}
use Rattle.settle_rows.proofs.scene.Scene.lent.Goals as goal

pub returns-clause-ready : goal.returns-clause-ready
returns-clause-ready g c =
    first_ready c.in_ok-graph.graph _ _ _ _ c.in_ok-graph.ensures.state c.in_ok-graph.ensures.given c.in_ok-shelf.ensures.asked c.new-4.ensures.items
