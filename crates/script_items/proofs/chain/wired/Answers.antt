use Rattle.script_items.proofs.Chains.{few_names, wired_linked}
use Rattle.script_items.proofs.chain.wired.Goals as goal

pub formula_over-requires : goal.formula_over-requires
formula_over-requires c =
    rw c.deref.ensures.value (few_names c.args.chain.first c.args.chain.links.items c.in_ok-names.names.items c.requires c.in_ok-names.ensures)

pub returns : goal.returns
returns c =
    wired_linked c.args.chain.first c.args.chain.links.items c.in_ok-names.names.items _ c.in_ok-names.ensures
    (rw c.deref.ensures.value at c.in_ok-formula.ensures)
