use Rattle.std.proofs.Common.{ap, refl, sym, subst, ◌∙◌, ◌≡◌, nat_lt, true}
use Rattle.std.proofs.Common.{Vec, Global}
use Rattle.std.specs.List.{All}
use Rattle.sig_base.specs.declared.ids.NodeId.{NodeId}
use Rattle.settle_rows.proofs.Scenes.{computed_ready, given_here, host_own, one_given, same_places, same_ready}
use Rattle.settle_rows.proofs.scene.Scene.host.Goals as goal

pub add_computed-requires-clause-given : goal.add_computed-requires-clause-given
add_computed-requires-clause-given g c =
    given_here c.args.self.now.graph c.count.new.self.graph c.push.new.self.items c.push.new.self.items c.in_ok-count.ensures.graph refl
    (one_given c.args.self.now.graph.given c.in_ok-source.source _ _ c.new-slots.ensures.items c.in_ok-push.ensures.items
    (c.in_ok-source.ensures (λ n. nat_lt n c.args.self.now.graph.given)
    (subst (All (λ n. nat_lt n c.args.self.now.graph.given ≡ true))
    (sym (c.deref-2.ensures.value ∙ ap (λ (v : Vec NodeId Global). v.items) c.in_ok-count.ensures.ids)) c.requires.ready.given)))

pub returns-clause-ready : goal.returns-clause-ready
returns-clause-ready g c =
    let e = c.in_ok-count.ensures in
    let n = c.in_ok-name.ensures in
    let r = same_ready c.args.self.now.graph c.count.new.self.graph _ _ c.args.self.now.ids.items c.count.new.self.ids.items c.args.self.now.commands c.args.self.now.commands
    e.graph (same_places c.count.new.self.shelf c.args.self.now.shelf e.shelf) (ap (λ (v : Vec NodeId Global). v.items) e.ids) refl c.requires.ready in
    same_ready c.add_computed.new.self c.name.new.self.graph _ _ _ c.name.new.self.ids.items _ c.name.new.self.commands n.graph
    (same_places c.name.new.self.shelf c.count.new.self.shelf n.shelf) n.ids (n.commands ∙ e.commands)
    (computed_ready c.count.new.self.graph c.add_computed.new.self _ c.count.new.self.ids.items c.args.self.now.commands c.in_ok-id.id _
    (host_own c.args.place _ (sym c.is_there.ensures ∙ c.if-not-is_there.false)) r c.in_ok-id.ensures.after)
