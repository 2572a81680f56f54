use Rattle.std.proofs.Common.{refl, ap, ◌∙◌}
use Rattle.std.proofs.Common.{Vec, Global}
use Rattle.sig_base.specs.declared.ids.NodeId.{NodeId}
use Rattle.settle_rows.proofs.Scenes.{cell_ready, same_places, same_ready}
use Rattle.settle_rows.proofs.scene.Scene.cell.Goals as goal

pub returns-clause-ready : goal.returns-clause-ready
returns-clause-ready g c =
    let e = c.in_ok-count.ensures in
    let n = c.in_ok-name.ensures in
    let r = same_ready c.args.self.now.graph c.count.new.self.graph _ _ c.args.self.now.ids.items c.count.new.self.ids.items c.args.self.now.commands c.args.self.now.commands
    e.graph (same_places c.count.new.self.shelf c.args.self.now.shelf e.shelf) (ap (λ (v : Vec NodeId Global). v.items) e.ids) refl c.requires.ready in
    same_ready c.add_cell.new.self c.name.new.self.graph _ _ _ c.name.new.self.ids.items _ c.name.new.self.commands n.graph
    (same_places c.name.new.self.shelf c.count.new.self.shelf n.shelf) n.ids (n.commands ∙ e.commands)
    (cell_ready c.count.new.self.graph c.add_cell.new.self _ c.count.new.self.ids.items c.args.self.now.commands c.in_ok-id.id _ r c.in_ok-id.ensures.after)
