use Rattle.effect_model.specs.Commands.{armed}
use Rattle.sig_watcher.proofs.Places.{written}
use Rattle.sig_watcher.proofs.watchers.arm_at.Goals as goal

pub returns-clause-after : goal.returns-clause-after
returns-clause-after c = written c.args.watchers.now.items c.args.place c.index_mut.result.now c.arm.new.self (armed c.args.ids.now) c.requires c.index_mut.ensures.value c.in_ok-arm.ensures.armed
