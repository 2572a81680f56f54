use Rattle.script_items.proofs.Heads.{effect_writes}
use Rattle.script_items.proofs.block.plain_head.Goals as goal

pub returns : goal.returns
returns c = effect_writes c.args.line.now c.in-Some.text.now c.in_ok-name.name c.in-Some.ensures c.in_ok-name.ensures
