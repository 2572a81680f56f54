use Rattle.std.proofs.Common.{refl, map, arith}
use Rattle.page_ops.specs.Ops.{op_of}
use Rattle.page_tree.specs.Subs.{insertion, sub_tree}
use Rattle.tpl_patch.proofs.Operations.{no_arrival, one_arrival}
use Rattle.tpl_patch.proofs.Said.{pushed}
use Rattle.tpl_patch.proofs.moves.put_arrival.Goals as goal

pub returns-in_default : goal.returns-in_default
returns-in_default c = λ n j ns steps.
    no_arrival c.args.parent c.args.place n j ns steps c.args.waiting.now.items c.pop_front.new.self.items (map op_of c.args.ops.now.items)
    c.in_default.ensures.items (omega (arith, c.in_default.ensures.cases.0))

pub returns : goal.returns
returns c = λ n j ns steps.
    one_arrival c.args.parent c.args.place n j c.number.result ns steps c.in-Some.sub c.args.waiting.now.items c.pop_front.new.self.items
    (map op_of c.args.ops.now.items) (map op_of c.push.new.self.items) c.in-Some.ensures.items c.number.ensures.alone
    (pushed c.args.ops.now.items c.push.new.self.items _ (insertion c.args.parent c.args.place (sub_tree c.in-Some.sub)) c.in_ok-push.ensures.items refl)
