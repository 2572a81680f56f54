use Rattle.std.proofs.Common.{◌++◌, ◌∙◌, ap}
use Rattle.tpl_model.specs.KeptLines.Kept.{heard_of}
use Rattle.tpl_kept.proofs.Listened.Sequences.{each_put}
use Rattle.tpl_kept.proofs.listening.names.put_each.Goals as goal

pub loop-heard-preserved : goal.loop-heard-preserved
loop-heard-preserved c =
    each_put heard_of c.args.all.now c.loop-heard.heard-index c.heard-item.result c.args.out.now.items c.loop-heard.out.items c.put_all.new.out.items
    c.loop-heard-test.true c.heard-item.is c.loop-heard.invariant
    (c.in_ok-put_all.ensures ∙ ap (λ z. c.loop-heard.out.items ++ z) c.deref.ensures.value)
