use Rattle.std.proofs.KnownBytes.{Consumes-trans}
use Rattle.std.proofs.lemmas.Result.{err_from_is_err_and}
use Rattle.live_run.proofs.input.read_all.Goals as goal

pub returns-then-count-len-clause-front : goal.returns-then-count-len-clause-front
returns-then-count-len-clause-front g c =
    (_, Consumes-trans _ _ _ _ _ c.loop-count.invariant.bytes c.in-Ok.ensures.bytes.0)

pub returns-in_err-extend_from_slice-clause-front :
    goal.returns-in_err-extend_from_slice-clause-front
returns-in_err-extend_from_slice-clause-front g c =
    let p = err_from_is_err_and c.from_residual.result c.from_residual.ensures.1 in
    rw p.1 (_, Consumes-trans _ _ _ _ _ c.loop-count.invariant.bytes c.in-Ok.ensures.bytes.0)
