use Rattle.std.proofs.Common.{ap, sym, ◌∙◌, arith}
use Rattle.effect_model.specs.Owners.{sets, logs}
use Rattle.sig_base.specs.Values.{scalar_value}
use Rattle.sig_owner.specs.Tables.{cleanup_of}
use Rattle.effect_world.proofs.Told.{one_told}
use Rattle.effect_world.proofs.Undone.{undoes_cleaned, undoes_logged}
use Rattle.effect_world.proofs.world.World.clean.Goals as goal

pub returns-in_ok-set_signal-in-Set-clause-done : goal.returns-in_ok-set_signal-in-Set-clause-done
returns-in_ok-set_signal-in-Set-clause-done g c = λ asked a.
    undoes_cleaned _ _ _ asked _ _ _ c.args.effect c.in-Set.cell c.from-value.result _ c.in_ok-push.ensures.items
    (ap (sets c.in-Set.cell) (c.from-value.ensures ∙ ap scalar_value c.in_ok-scalar-in-Set.ensures) ∙ sym (ap cleanup_of c.in-Set.is)) (c.in_ok-set_signal-in-Set.ensures.done asked a)

pub returns-in_ok-push-in-Log-clause-done : goal.returns-in_ok-push-in-Log-clause-done
returns-in_ok-push-in-Log-clause-done g c = λ asked a.
    undoes_logged _ _ asked _ _ _ c.args.effect c.in_ok-value-in-Log.value _ c.in_ok-push.ensures.items c.in_ok-push-in-Log.ensures.items (ap logs c.in_ok-value-in-Log.ensures ∙ sym (ap cleanup_of c.in-Log.is)) a

pub returns-in_ok-set_signal-in-Set-clause-told : goal.returns-in_ok-set_signal-in-Set-clause-told
returns-in_ok-set_signal-in-Set-clause-told g c =
    let m = one_told _ _ _ c.in_ok-push.ensures.items in
    let n = c.in_ok-set_signal-in-Set.ensures.told in
    omega (arith, m, n)

pub returns-in_ok-push-in-Log-clause-told : goal.returns-in_ok-push-in-Log-clause-told
returns-in_ok-push-in-Log-clause-told g c =
    let m = one_told _ _ _ c.in_ok-push.ensures.items in
    let n = one_told _ _ _ c.in_ok-push-in-Log.ensures.items in
    omega (arith, m, n)
