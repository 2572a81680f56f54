use Rattle.std.proofs.Common.{◌∙◌, map, ap}
use Rattle.effect_model.specs.Acts.{is_notified_by_any}
use Rattle.sig_watcher.specs.Tables.{Table}
use Rattle.sig_effect.proofs.Shared.{behind_none, commit_agrees, commit_does}
use Rattle.effect_model.specs.Batches.{commit}
use Rattle.sig_graph.specs.States.{Seen}
use Rattle.sig_effect.specs.Stores.{environment}
use Rattle.effect_world.specs.Wholes.{stores_of}
use Rattle.effect_world.proofs.Batched.{framed_commit}
use Rattle.effect_world.proofs.Worlds.{owned_still, signals_done}
use Rattle.effect_tables.specs.Placed.{effect_of}
use Rattle.effect_tables.specs.declared.tables.Tables.{Tables}
use Rattle.effect_tables.proofs.Shared.{same_heard}
use Rattle.effect_world.proofs.world.World.commit.Goals as goal

pub returns-clause-does : goal.returns-clause-does
returns-clause-does g c = λ hosts asked sound.
    let e = c.in_ok-notify_of_all.ensures in
    let env = environment hosts (map (λ r. r.slack) c.args.rules.now) in
    signals_done hosts asked asked c.args.self.now c.notify_of_all.new.self _ _ (commit env c.args.batch.now.changed)
    (commit_does hosts _ asked (stores_of c.args.self.now) (stores_of c.notify_of_all.new.self) _ _ c.args.batch.now.changed c.deref.result.now
    (c.deref.ensures.value ∙ behind_none c.net.new.out.items _ c.in_ok-cells.cells.items c.in_ok-cells.ensures.items c.net.ensures) e.graph e.watchers e.notices sound)
    (framed_commit env c.args.batch.now.changed) e.tables c.requires.owned.tables

pub returns-clause-agrees : goal.returns-clause-agrees
returns-clause-agrees g c = λ asked a.
    let e = c.in_ok-notify_of_all.ensures in
    record {
      signals = commit_agrees asked (stores_of c.args.self.now) (stores_of c.notify_of_all.new.self)
          (is_notified_by_any c.args.self.now.graph.state.signals c.args.self.now.graph.state.memos c.deref.result.now) e.graph e.watchers a.signals;
      owned = owned_still c.args.self.now c.notify_of_all.new.self (ap (λ (g : Seen). g.given) e.graph) e.tables a.owned;
      heard = same_heard c.args.self.now.graph.state.signals c.notify_of_all.new.self.graph.state.signals c.args.self.now.heard c.notify_of_all.new.self.heard _ _
          (ap (λ (g : Seen). g.state.signals) e.graph) e.heard (ap (λ (t : Tables). map effect_of t.effects.items) e.tables) a.heard;
    }

pub returns-clause-made : goal.returns-clause-made
returns-clause-made g c = ap (λ (t : Table). t.made) c.in_ok-notify_of_all.ensures.watchers
