use Rattle.std.proofs.Common.{sym, ◌∙◌}
use Rattle.script_items.proofs.Heads.{end_alone, end_found, end_none}
use Rattle.script_items.proofs.block.is_end.Goals as goal

pub returns-then-eq : goal.returns-then-eq
returns-then-eq c = end_alone c.args.line.now c.as_slice.result.now (sym c.eq.ensures ∙ c.if-eq.true) c.as_slice.ensures

pub returns-in_default : goal.returns-in_default
returns-in_default c = let h = rw c.in_default.is at c.in_ok-found.ensures in end_none c.args.line.now h

pub returns : goal.returns
returns c =
    let h = rw c.in-Some.is at c.in_ok-found.ensures in
    rw (c.end_told-ends.ensures, c.deref.ensures) (end_found c.args.line.now c.in-Some.found.value h)
