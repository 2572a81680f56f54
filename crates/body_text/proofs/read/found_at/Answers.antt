use Rattle.std.proofs.Common.{sym}
use Rattle.body_text.proofs.Places.{does_fit, does_not_fit}
use Rattle.body_text.proofs.read.found_at.Goals as goal

pub returns-in_default : goal.returns-in_default
returns-in_default c = let h = rw c.in_default.is at c.in_ok-found.ensures in λ x s f. h x s

pub returns-then-not-fits : goal.returns-then-not-fits
returns-then-not-fits c =
    does_not_fit c.args.allowance c.args.depth c.args.line.now c.in-Some.found (sym c.if-not-fits.ensures) (rw c.in-Some.is at c.in_ok-found.ensures)

pub returns : goal.returns
returns c = does_fit c.args.allowance c.args.depth c.args.line.now c.in-Some.found (sym c.if-not-fits.ensures) (rw c.in-Some.is at c.in_ok-found.ensures)
