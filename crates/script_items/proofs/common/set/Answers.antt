use Rattle.script_items.proofs.Commonest.{plain_set}
use Rattle.script_items.proofs.common.set.Goals as goal

pub returns : goal.returns
returns c = λ k.
    plain_set k c.args.text.now c.in-Some.name.now c.in-Some.value.now c.in_ok-name.name c.in-Some-short.value c.in-Some.ensures c.in_ok-name.ensures
    c.in-Some-short.ensures
