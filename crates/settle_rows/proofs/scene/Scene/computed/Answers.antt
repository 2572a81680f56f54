use Rattle.std.proofs.Common.{◌≡◌, nat_lt, true, refl, ap, sym, ◌∙◌, subst}
use Rattle.std.proofs.Common.{Vec, Global}
use Rattle.std.specs.List.{All}
use Rattle.sig_base.specs.declared.ids.NodeId.{NodeId}
use Rattle.settle_rows.proofs.Scenes.{computed_ready, given_here, same_places, same_ready}
use Rattle.settle_rows.proofs.scene.Scene.computed.Goals as goal

pub add_computed-requires-clause-given : goal.add_computed-requires-clause-given
add_computed-requires-clause-given g c =
    given_here c.args.self.now.graph c.count.new.self.graph c.in_ok-slots.slots.items c.in_ok-slots.slots.items c.in_ok-count.ensures.graph refl
    (c.in_ok-slots.ensures (λ n. nat_lt n c.args.self.now.graph.given)
    (subst (All (λ n. nat_lt n c.args.self.now.graph.given ≡ true))
    (sym (c.deref-2.ensures.value ∙ ap (λ (v : Vec NodeId Global). v.items) c.in_ok-count.ensures.ids)) c.requires.ready.given))

pub returns-clause-ready : goal.returns-clause-ready
returns-clause-ready g c =
    let e = c.in_ok-count.ensures in
    let n = c.in_ok-name.ensures in
    let r = same_ready c.args.self.now.graph c.count.new.self.graph _ _ c.args.self.now.ids.items c.count.new.self.ids.items c.args.self.now.commands c.args.self.now.commands
    e.graph (same_places c.count.new.self.shelf c.args.self.now.shelf e.shelf) (ap (λ (v : Vec NodeId Global). v.items) e.ids) refl c.requires.ready in
    same_ready c.add_computed.new.self c.name.new.self.graph _ _ _ c.name.new.self.ids.items _ c.name.new.self.commands n.graph
    (same_places c.name.new.self.shelf c.count.new.self.shelf n.shelf) n.ids (n.commands ∙ e.commands)
    (computed_ready c.count.new.self.graph c.add_computed.new.self _ c.count.new.self.ids.items c.args.self.now.commands c.in_ok-id.id _ (λ place is. cc) r c.in_ok-id.ensures.after)
