use Rattle.script_items.proofs.Chains.{whole}
use Rattle.script_items.proofs.chain.chain_of.Goals as goal

pub returns : goal.returns
returns c = whole c.args.text.now c.in-Some.word.now c.in-Some.rest.now _ c.in-Some.ensures c.in_ok-first.ensures c.in_ok-links.ensures
