use Rattle.script_items.proofs.Heads.{head_found, head_none}
use Rattle.script_items.proofs.block.head_by_tokens.Goals as goal

pub returns-in_default : goal.returns-in_default
returns-in_default c = let h = rw c.in_default.is at c.in_ok-found.ensures in head_none c.args.line.now h

pub returns : goal.returns
returns c =
    let h = rw c.in-Some.is at c.in_ok-found.ensures in
    rw (c.in_ok-head.ensures, c.deref.ensures) (head_found c.args.line.now c.in-Some.found.value h)
