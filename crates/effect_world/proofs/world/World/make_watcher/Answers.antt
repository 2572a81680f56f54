use Rattle.std.proofs.Common.{sym, refl, subst}
use Rattle.sig_watcher.specs.Tables.{Table}
use Rattle.sig_effect.specs.Stores.{AreWatched}
use Rattle.effect_world.specs.declared.world.World.{World}
use Rattle.effect_world.proofs.Worlds.{owned_still, watched_more, watcher_done}
use Rattle.effect_world.proofs.world.World.make_watcher.Goals as goal

pub returns-clause-does : goal.returns-clause-does
returns-clause-does c = λ hosts asked sound.
    let new : World = record { graph = c.args.self.now.graph; watchers = c.add.new.self; tables = c.args.self.now.tables; heard = c.args.self.now.heard } in
    watcher_done hosts asked c.args.self.now new c.args.tries refl c.in_ok-id.ensures.after refl c.requires.owned.tables sound

pub returns-clause-agrees : goal.returns-clause-agrees
returns-clause-agrees c = λ asked a. record {
  signals = record {
    idle = a.signals.idle;
    listed = a.signals.listed;
    there = a.signals.there;
    own = a.signals.own;
    watched = subst (λ (t : Table). AreWatched c.args.self.now.graph.state.signals t.watchers) (sym c.in_ok-id.ensures.after)
        (watched_more c.args.self.now.graph.state.signals c.args.self.now.watchers.watchers _ refl a.signals.watched);
  };
  owned = owned_still c.args.self.now (record { graph = c.args.self.now.graph; watchers = c.add.new.self; tables = c.args.self.now.tables; heard = c.args.self.now.heard }) refl refl a.owned;
  heard = a.heard;
}
