use Rattle.script_items.proofs.Commonest.{plain_cell}
use Rattle.script_items.proofs.common.cell.Goals as goal

pub returns : goal.returns
returns c = λ k.
    plain_cell k c.args.text.now c.in-Some.name.now c.in-Some.rest.now c.in-Some-behind_front.value.now c.in_ok-name.name c.in-Some-short.value
    c.in-Some.ensures c.in-Some-behind_front.ensures c.in_ok-name.ensures c.in-Some-short.ensures
