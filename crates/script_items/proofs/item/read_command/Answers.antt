use Rattle.script_items.proofs.Plain.{found_alone, found_other}
use Rattle.script_items.proofs.item.read_command.Goals as goal

pub returns-in_default : goal.returns-in_default
returns-in_default c = let h = rw c.in_default.is at c.in_ok-found.ensures in λ x s f. h x s

pub returns-then-not-deref : goal.returns-then-not-deref
returns-then-not-deref c =
    let h = rw c.in-Some.is at c.in_ok-found.ensures in
    found_other c.args.line.now c.in-Some.found.value (rw c.deref.ensures at c.if-not-deref.true) h

pub returns : goal.returns
returns c =
    let h = rw c.in-Some.is at c.in_ok-found.ensures in
    found_alone c.args.line.now c.in-Some.found.value (rw c.deref.ensures at c.if-not-deref.false) h
