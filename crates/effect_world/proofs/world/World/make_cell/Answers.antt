use Rattle.std.proofs.Common.{arith, refl, sym, ap, subst, map}
use Rattle.sig_graph.specs.States.{State}
use Rattle.signal_model.specs.Signals.{Signals}
use Rattle.effect_model.specs.Worlds as plain
use Rattle.sig_effect.specs.Stores.{AreRuled}
use Rattle.sig_effect.specs.Wholes as wholes
use Rattle.sig_effect.proofs.Shared.{cell_agrees, cell_does, none_there, ruled_cell}
use Rattle.effect_world.specs.declared.world.World.{World}
use Rattle.effect_world.specs.Wholes.{stores_of}
use Rattle.effect_world.proofs.Worlds.{cell_done, owned_more}
use Rattle.effect_tables.specs.Placed.{effect_of}
use Rattle.effect_world.proofs.Kept.{cell_heard}
use Rattle.effect_world.proofs.world.World.make_cell.Goals as goal

pub adopt_signal-requires-clause-lone : goal.adopt_signal-requires-clause-lone
adopt_signal-requires-clause-lone c = let same = c.in_ok-id.ensures.after.id in c.requires.owned.fresh c.in_ok-id.id (omega (arith, same))

pub returns-in-Ok-clause-made : goal.returns-in-Ok-clause-made
returns-in-Ok-clause-made c =
    let m = c.in_ok-id.ensures.after in
    record { next = m.id; given = m.given; worn = ap (λ (s : State). s.worn) m.state; watchers = refl }

pub returns-in-Ok-clause-does : goal.returns-in-Ok-clause-does
returns-in-Ok-clause-does c = λ hosts asked sound.
    let new : World = record { graph = c.add_cell.new.self; watchers = c.args.self.now.watchers; tables = c.adopt_signal.new.self; heard = c.args.self.now.heard } in
    let m = c.in_ok-id.ensures.after in
    cell_done hosts asked c.args.self.now new c.args.value c.args.rule c.args.inside c.in_ok-id.id m.id
    (cell_does hosts asked (stores_of c.args.self.now) (stores_of new) c.args.value c.args.rule c.in_ok-id.id m refl sound) c.in-Ok.ensures.makes.holds c.in-Ok.ensures.makes.does

pub returns-in-Ok-clause-agrees : goal.returns-in-Ok-clause-agrees
returns-in-Ok-clause-agrees c = λ asked a.
    let new : World = record { graph = c.add_cell.new.self; watchers = c.args.self.now.watchers; tables = c.adopt_signal.new.self; heard = c.args.self.now.heard } in
    let m = c.in_ok-id.ensures.after in
    record {
      signals = cell_agrees asked (stores_of c.args.self.now) (stores_of new) c.args.value c.args.rule c.in_ok-id.id m refl a.signals;
      owned = owned_more c.args.self.now new c.args.inside c.in_ok-id.id m.id m.given
          (ap (λ (w : plain.World). w.owned) (c.in-Ok.ensures.makes.does (wholes.whole_of asked (stores_of new)))) c.in-Ok.ensures.makes.holds c.in-Ok.ensures.makes.signals a.owned;
      heard = cell_heard c.args.self.now.graph.state.signals c.add_cell.new.self.state.signals (record { name = c.in_ok-id.id; value = c.args.value; rule = c.args.rule }) c.args.self.now.heard
          (map effect_of c.args.self.now.tables.effects.items) (map effect_of c.adopt_signal.new.self.effects.items) (ap (λ (s : State). s.signals) m.state)
          (ap (λ (w : plain.World). w.effects) (c.in-Ok.ensures.makes.does (wholes.whole_of asked (stores_of new)))) a.heard;
    }

pub returns-in-Ok-clause-ruled : goal.returns-in-Ok-clause-ruled
returns-in-Ok-clause-ruled c = λ rules below all.
    let m = c.in_ok-id.ensures.after in
    subst (λ (w : Signals). AreRuled rules w) (sym (ap (λ (s : State). s.signals) m.state))
    (ruled_cell rules c.args.self.now.graph.state.signals (record { name = c.in_ok-id.id; value = c.args.value; rule = c.args.rule })
    (none_there c.args.self.now.graph c.in_ok-id.id m.used m.fresh) below all)
