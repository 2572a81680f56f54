use Rattle.std.proofs.Common.{sym}
use Rattle.tpl_syntax.specs.Refusals.{allowed}
use Rattle.tpl_syntax.specs.Views.{place_of}
use Rattle.tpl_syntax.proofs.Places.{does_fit, does_not_fit}
use Rattle.tpl_syntax.proofs.read.found_at.Goals as goal

pub returns-in_default : goal.returns-in_default
returns-in_default c = let h = rw c.in_default.is at c.in_ok-found.ensures in λ x s f. h x s

pub returns-then-not-fits : goal.returns-then-not-fits
returns-then-not-fits c =
    let allow = c.in_loop.ensures in
    let h = rw allow at (rw c.in-Some.is at c.in_ok-found.ensures) in
    does_not_fit (place_of c.args.place.now) (allowed (place_of c.args.place.now)) c.args.line.now c.in-Some.found.value (sym (rw c.deref.ensures at c.if-not-fits.ensures)) h

pub returns : goal.returns
returns c =
    let p = place_of c.args.place.now in
    let allow = c.in_loop.ensures in
    does_fit p (allowed p) c.args.line.now c.in-Some.found.value (sym (rw c.deref.ensures at c.if-not-fits.ensures)) (rw allow at (rw c.in-Some.is at c.in_ok-found.ensures))
