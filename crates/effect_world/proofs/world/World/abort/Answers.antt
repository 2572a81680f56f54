use Rattle.std.proofs.Common.{refl, ap, arith, map}
use Rattle.sig_graph.specs.States.{State}
use Rattle.effect_world.specs.declared.world.World.{World}
use Rattle.sig_effect.proofs.Shared.{abort_agrees, abort_does, abort_named, abort_ruled, abort_told, abort_worn}
use Rattle.effect_model.specs.Batches.{abort}
use Rattle.effect_world.specs.Wholes.{stores_of}
use Rattle.effect_world.proofs.Batched.{framed_abort}
use Rattle.effect_world.proofs.Told.{more_told}
use Rattle.effect_world.proofs.Worlds.{changed_whole}
use Rattle.effect_tables.specs.Placed.{effect_of}
use Rattle.effect_tables.proofs.Shared.{none_heard}
use Rattle.effect_world.proofs.world.World.abort.Goals as goal

pub returns-clause-changed : goal.returns-clause-changed
returns-clause-changed c =
    let old : World = c.args.self.now in
    let new : World = record { graph = c.abort.new.graph; watchers = old.watchers; tables = old.tables; heard = c.forget.new.self } in
    let b = c.abort.ensures.graph in
    let told = abort_told _ _ _ c.in_ok-cells.cells.items c.abort.new.out.items c.deref.result.now c.in_ok-cells.ensures.items c.abort.ensures.items c.deref.ensures.value c.in_ok-tell_values.ensures in
    changed_whole _ old new _ _ _ (λ env. abort c.args.batch.changed)
    (λ hosts asked sound. abort_does hosts asked (stores_of old) (stores_of new) _ _ c.args.batch.changed b refl told sound)
    (λ asked a. abort_agrees asked (stores_of old) (stores_of new) c.args.batch.changed b refl a)
    (λ env. framed_abort c.args.batch.changed)
    (λ count all. abort_ruled count old.graph.state c.abort.new.graph.state c.args.batch.changed b.state all)
    (λ named. abort_named old.graph c.abort.new.graph old.watchers.made c.args.batch.changed _ _ c.made-made.ensures.used b.given told named)
    refl b.given refl
    (let worn = abort_worn c.args.batch.changed old.graph.state in let same = ap (λ (s : State). s.worn) b.state in omega (arith, worn, same))
    (more_told _ _ _ told)
    (λ h. none_heard c.abort.new.graph.state.signals c.forget.new.self (map effect_of old.tables.effects.items) c.forget.ensures)
