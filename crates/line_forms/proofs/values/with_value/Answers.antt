use Rattle.std.proofs.Common.{sym}
use Rattle.line_forms.proofs.Scalars.{longer_long}
use Rattle.line_forms.proofs.values.with_value.Goals as goal

pub returns-in-Ok : goal.returns-in-Ok
returns-in-Ok c = λ vs v h t.
    let held = rw c.in-Ok.is at h in
    rw (sym held.0) (c.pushed.ensures v (rw held.0 held.1) t)

pub returns-in-Err : goal.returns-in-Err
returns-in-Err c = λ vs v h t. longer_long vs v c.in-Err.fault (rw c.in-Err.is at h)
