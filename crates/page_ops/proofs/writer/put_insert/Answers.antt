use Rattle.std.proofs.Common.{arith}
use Rattle.std.proofs.lemmas.Grind.{common_steps}
use Rattle.page_tree.specs.Subs.{sub_tree}
use Rattle.page_ops.proofs.Written.{insertion_text}
use Rattle.page_ops.proofs.writer.put_insert.Goals as goal

pub returns-clause-text : goal.returns-clause-text
returns-clause-text c =
    let e = insertion_text c.args.parent c.args.place c.number.result (sub_tree c.args.sub.now) c.number.ensures.alone in
    rw (← e) (grind (arith, common_steps))
