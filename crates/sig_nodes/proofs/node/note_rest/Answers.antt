use Rattle.std.proofs.Common.{◌+◌, ◌++◌, drop, ap, ◌∙◌, arith}
use Rattle.sig_nodes.proofs.Sources.{moved_one}
use Rattle.sig_nodes.proofs.node.note_rest.Goals as goal

pub loop-one-preserved : goal.loop-one-preserved
loop-one-preserved c =
    ap (λ r. r ++ drop (c.loop-one.one-index + 1) c.split_at.result.1.now) c.in_ok-push.ensures.items
    ∙ moved_one c.loop-one.held.items c.split_at.result.1.now c.args.known.now c.loop-one.one-index c.one-item.result c.in_ok-copy.field-0 (omega arith) c.in_ok-copy.ensures c.one-item.is c.loop-one.invariant
