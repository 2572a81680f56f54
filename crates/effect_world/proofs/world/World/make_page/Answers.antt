use Rattle.std.proofs.Common.{refl, ap, map}
use Rattle.effect_model.specs.Owners.{the_page}
use Rattle.effect_model.specs.Worlds as plain
use Rattle.sig_effect.specs.Wholes as wholes
use Rattle.effect_world.specs.declared.world.World.{World}
use Rattle.effect_world.specs.Wholes.{stores_of}
use Rattle.effect_world.proofs.Worlds.{owned_same, page_done}
use Rattle.effect_tables.specs.Placed.{effect_of}
use Rattle.effect_tables.proofs.Shared.{same_heard}
use Rattle.effect_world.proofs.world.World.make_page.Goals as goal

pub returns-clause-does : goal.returns-clause-does
returns-clause-does c = λ hosts asked sound.
    let new : World = record { graph = c.args.self.now.graph; watchers = c.args.self.now.watchers; tables = c.make_page.new.self; heard = c.args.self.now.heard } in
    page_done hosts asked c.args.self.now new c.args.inside c.in_ok-id.ensures.makes.does refl c.in_ok-id.ensures.makes.holds sound

pub returns-clause-agrees : goal.returns-clause-agrees
returns-clause-agrees c = λ asked a.
    let new : World = record { graph = c.args.self.now.graph; watchers = c.args.self.now.watchers; tables = c.make_page.new.self; heard = c.args.self.now.heard } in
    record {
      signals = a.signals;
      owned = owned_same c.args.self.now new c.args.inside (the_page c.args.self.now.tables.pages_made) refl refl
          (ap (λ (w : plain.World). w.owned) (c.in_ok-id.ensures.makes.does (wholes.whole_of asked (stores_of c.args.self.now))))
          c.in_ok-id.ensures.makes.holds c.in_ok-id.ensures.makes.signals a.owned;
      heard = same_heard c.args.self.now.graph.state.signals c.args.self.now.graph.state.signals c.args.self.now.heard c.args.self.now.heard
          (map effect_of c.args.self.now.tables.effects.items) (map effect_of c.make_page.new.self.effects.items) refl refl
          (ap (λ (w : plain.World). w.effects) (c.in_ok-id.ensures.makes.does (wholes.whole_of asked (stores_of c.args.self.now)))) a.heard;
    }
