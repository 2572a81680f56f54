use Rattle.page_follow.proofs.Fed.{by_write, falls_front, passes_front}
use Rattle.std.proofs.Common.{refl}
use Rattle.page_follow.proofs.input.follow_piece.Goals as goal

pub returns-in_err-put_all-in-Ok-clause-ends : goal.returns-in_err-put_all-in-Ok-clause-ends
returns-in_err-put_all-in-Ok-clause-ends g c =
    by_write _ _ _ _ _ c.from_residual.ensures.1
    (passes_front _ _ _ _ _ _ _ c.new-out.ensures.items c.in-Ok.ensures.passes (rw c.deref.ensures.value at c.in_err-put_all-in-Ok.ensures.err))

pub returns-in_err-put_all-in-Err-Refused-clause-ends : goal.returns-in_err-put_all-in-Err-Refused-clause-ends
returns-in_err-put_all-in-Err-Refused-clause-ends g c =
    by_write _ _ _ _ _ c.from_residual-in_err-put_all-in-Err-Refused.ensures.1
    (falls_front _ _ _ _ _ _ c.new-out.ensures.items (c.in-Err-Refused.ensures.falls (rw c.in-Err-Refused.field-0-is refl))
    (rw c.deref-in-Err-Refused.ensures.value at c.in_err-put_all-in-Err-Refused.ensures.err))
