use Rattle.std.proofs.Common.{ap, refl, length, ℕ, arith, ◌≡◌}
use Rattle.std.proofs.Common.{Vec, Global}
use Rattle.std.proofs.lemmas.List.{length-map}
use Rattle.sig_base.specs.declared.ids.NodeId.{NodeId}
use Rattle.sig_computed.specs.Notes.{note_of}
use Rattle.settle_rows.proofs.Scenes.{got_ready, same_places, same_ready}
use Rattle.settle_rows.proofs.scene.Scene.get.Goals as goal

pub returns-clause-ready : goal.returns-clause-ready
returns-clause-ready g c =
    let e = c.in_ok-count.ensures in
    let s = c.in_ok-outcome.ensures.settles in
    let worn = s.worn in
    let most = s.most in
    let old = length-map c.new-notes.result.items note_of in
    let new = length-map c.settle.new.notes.items note_of in
    let none : length c.new-notes.result.items ≡ 0 = ap length c.new-notes.ensures.items in
    let r = same_ready c.args.self.now.graph c.count.new.self.graph _ _ c.args.self.now.ids.items c.count.new.self.ids.items c.args.self.now.commands c.args.self.now.commands
    e.graph (same_places c.count.new.self.shelf c.args.self.now.shelf e.shelf) (ap (λ (v : Vec NodeId Global). v.items) e.ids) refl c.requires.ready in
    same_ready c.settle.new.graph c.settle.new.graph _ _ c.count.new.self.ids.items c.count.new.self.ids.items _ c.count.new.self.commands refl refl refl e.commands
    (got_ready c.count.new.self.graph c.settle.new.graph _ _ c.count.new.self.ids.items c.args.self.now.commands (length c.new-notes.result.items) (length c.settle.new.notes.items)
    r none s.signals s.given s.idle (omega (arith, worn, old, new)) (omega arith) s.there
    (omega (arith, most, old, new)))
