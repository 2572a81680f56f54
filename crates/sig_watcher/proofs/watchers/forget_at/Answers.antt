use Rattle.effect_model.specs.Acts.{forget}
use Rattle.sig_watcher.proofs.Places.{written}
use Rattle.sig_watcher.proofs.watchers.forget_at.Goals as goal

pub returns : goal.returns
returns c = written c.args.watchers.now.items c.args.place c.index_mut.result.now c.forget.new.self (forget c.args.id) c.requires c.index_mut.ensures.value c.forget.ensures
