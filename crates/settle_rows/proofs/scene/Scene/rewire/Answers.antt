use Rattle.std.proofs.Common.{◌≡◌, nat_lt, true, refl, ap, sym, ◌∙◌, subst, arith}
use Rattle.std.proofs.Common.{Vec, Global}
use Rattle.std.specs.List.{All}
use Rattle.sig_base.specs.declared.ids.NodeId.{NodeId}
use Rattle.signal_model.specs.Signals.{standing}
use Rattle.sig_graph.specs.States.{Seen, is_computing}
use Rattle.settle_rows.proofs.Scenes.{given_here, not_cell, rewired_ready, same_places, same_ready}
use Rattle.settle_rows.proofs.scene.Scene.rewire.Goals as goal

pub rewire-requires : goal.rewire-requires
rewire-requires g c =
    let same = c.in_ok-count.ensures.graph in
    let worn = ap (λ (g : Seen). g.state.worn) same in
    let before = c.requires.ready.worn in
    let few = c.in_ok-count.ensures.few in
    record {
      kind = not_cell (standing c.count.new.self.graph.state.signals c.in_ok-id.id) (is_computing c.count.new.self.graph.state c.in_ok-id.id)
          (λ k. c.in_default.not-Cell (c.standing.ensures ∙ k));
      idle = ap (λ (g : Seen). is_computing g.state c.in_ok-id.id) same ∙ c.requires.ready.idle c.in_ok-id.id;
      given = given_here c.args.self.now.graph c.count.new.self.graph c.in_ok-slots.slots.items c.in_ok-slots.slots.items same refl
          (c.in_ok-slots.ensures (λ n. nat_lt n c.args.self.now.graph.given)
          (subst (All (λ n. nat_lt n c.args.self.now.graph.given ≡ true))
          (sym (c.deref-2.ensures.value ∙ ap (λ (v : Vec NodeId Global). v.items) c.in_ok-count.ensures.ids)) c.requires.ready.given));
      few = tt;
      worn = omega (arith, worn, before, few);
    }

pub returns-in_ok-rewire-in_default : goal.returns-in_ok-rewire-in_default
returns-in_ok-rewire-in_default g c =
    let e = c.in_ok-count.ensures in
    let r = same_ready c.args.self.now.graph c.count.new.self.graph _ _ c.args.self.now.ids.items c.count.new.self.ids.items c.args.self.now.commands c.args.self.now.commands
    e.graph (same_places c.count.new.self.shelf c.args.self.now.shelf e.shelf) (ap (λ (v : Vec NodeId Global). v.items) e.ids) refl c.requires.ready in
    record {
      ready = same_ready c.rewire.new.self c.rewire.new.self _ _ c.count.new.self.ids.items c.count.new.self.ids.items _ c.count.new.self.commands refl refl refl e.commands
          (rewired_ready c.count.new.self.graph c.rewire.new.self _ c.count.new.self.ids.items c.args.self.now.commands c.in_ok-id.id _ _ r c.in_ok-rewire-in_default.ensures.after);
      counted = rw e.shelf c.requires.counted;
    }
