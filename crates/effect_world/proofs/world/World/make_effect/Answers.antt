use Rattle.std.proofs.Common.{[], None, refl, ap, map, arith}
use Rattle.std.proofs.lemmas.List.{length-map}
use Rattle.effect_model.specs.Commands.{with_new_effect}
use Rattle.effect_tables.specs.Bodies.{body_of}
use Rattle.effect_model.specs.Owners.{the_effect, listed}
use Rattle.effect_model.specs.Worlds as plain
use Rattle.sig_effect.specs.Wholes as wholes
use Rattle.effect_world.specs.declared.world.World.{World}
use Rattle.effect_world.specs.Wholes.{stores_of}
use Rattle.effect_world.proofs.Worlds.{owned_same, tables_done}
use Rattle.effect_tables.specs.Placed.{effect_of}
use Rattle.effect_tables.proofs.Shared.{added_heard}
use Rattle.effect_world.proofs.world.World.make_effect.Goals as goal

pub returns-clause-does : goal.returns-clause-does
returns-clause-does c = λ hosts asked sound.
    let new : World = record { graph = c.args.self.now.graph; watchers = c.args.self.now.watchers; tables = c.make_effect.new.self; heard = c.add.new.self } in
    tables_done hosts asked c.args.self.now new [] (with_new_effect (body_of c.args.self.now.tables.effects_made c.args.script []) c.args.inside) c.in_ok-id.ensures.makes.does refl c.in_ok-id.ensures.makes.holds sound

pub returns-clause-agrees : goal.returns-clause-agrees
returns-clause-agrees c = λ asked a.
    let new : World = record { graph = c.args.self.now.graph; watchers = c.args.self.now.watchers; tables = c.make_effect.new.self; heard = c.add.new.self } in
    record {
      signals = a.signals;
      owned = owned_same c.args.self.now new c.args.inside (the_effect c.args.self.now.tables.effects_made) tt refl
          (ap (λ (w : plain.World). listed w.owned) (c.in_ok-id.ensures.makes.does (wholes.whole_of asked (stores_of c.args.self.now))))
          c.in_ok-id.ensures.makes.holds c.in_ok-id.ensures.makes.signals a.owned;
      heard = let e = c.len-place.ensures in
          let m = length-map c.args.self.now.tables.effects.items effect_of in
          added_heard c.len-place.result c.args.self.now.graph.state.signals c.args.self.now.heard c.add.new.self (map effect_of c.args.self.now.tables.effects.items)
          (map effect_of c.make_effect.new.self.effects.items)
          (record { number = c.args.self.now.tables.effects_made; body = body_of c.args.self.now.tables.effects_made c.args.script []; kept = None }) c.add.ensures (omega (arith, e, m))
          (ap (λ (w : plain.World). w.effects) (c.in_ok-id.ensures.makes.does (wholes.whole_of asked (stores_of c.args.self.now)))) a.heard;
    }
