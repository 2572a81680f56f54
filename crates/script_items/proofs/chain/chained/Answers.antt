use Rattle.script_items.proofs.Chains.{plain_chain}
use Rattle.script_items.proofs.chain.chained.Goals as goal

pub wired-requires : goal.wired-requires
wired-requires c = c.in_ok-chain.ensures.few

pub returns : goal.returns
returns c = λ k.
    plain_chain k c.args.text.now c.in_ok-name.name c.in-Some.name.now c.in-Some.formula.now c.in_ok-chain.chain c.in_ok-formula.formula
    c.in-Some.ensures c.in_ok-name.ensures c.in_ok-chain.ensures c.in_ok-formula.ensures
