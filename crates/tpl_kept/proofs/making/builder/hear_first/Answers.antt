use Rattle.std.proofs.Common.{map, refl}
use Rattle.tpl_hearing.proofs.Shared.{nothing_heard}
use Rattle.tpl_model.specs.KeptLines.Kept.{kept}
use Rattle.tpl_kept.proofs.Made.Tried.{attempted_failed}
use Rattle.tpl_kept.proofs.making.builder.hear_first.Goals as goal

pub returns-in-Empty-clause-opens : goal.returns-in-Empty-clause-opens
returns-in-Empty-clause-opens g c = rw c.in-Empty.is (refl, refl)

pub returns-in-Empty-clause-after : goal.returns-in-Empty-clause-after
returns-in-Empty-clause-after g c = nothing_heard _ _ c.args.heard.now c.requires.can.idle

pub returns-in_ok-line-in-Text-clause-opens : goal.returns-in_ok-line-in-Text-clause-opens
returns-in_ok-line-in-Text-clause-opens g c = rw c.in-Text.is (c.in_ok-line-in-Text.line, (refl, c.in_ok-line-in-Text.ensures.heard))

pub returns-in_ok-all-in-Tag-clause-opens : goal.returns-in_ok-all-in-Tag-clause-opens
returns-in_ok-all-in-Tag-clause-opens g c =
    let l = c.in_ok-all-in-Tag.ensures in
    rw c.in-Tag.is (c.in_ok-all-in-Tag.all, (refl, rw c.deref.ensures.value at l.heard))

pub returns-in_ok-all-in-Tag-clause-failed : goal.returns-in_ok-all-in-Tag-clause-failed
returns-in_ok-all-in-Tag-clause-failed g c = rw c.deref-in-Tag.ensures.value at c.any_fault-failed.ensures

pub returns-in_ok-line-in-Choice-clause-opens : goal.returns-in_ok-line-in-Choice-clause-opens
returns-in_ok-line-in-Choice-clause-opens g c = rw c.in-Choice.is (c.in_ok-line-in-Choice.line, (refl, c.in_ok-line-in-Choice.ensures.heard))

pub returns-in_ok-line-in-Each-clause-opens : goal.returns-in_ok-line-in-Each-clause-opens
returns-in_ok-line-in-Each-clause-opens g c = rw c.in-Each.is (c.in_ok-line-in-Each.line, (refl, c.in_ok-line-in-Each.ensures.heard))

-- ---- what is tried

pub returns-in_ok-head-in-Attempt-clause-opens : goal.returns-in_ok-head-in-Attempt-clause-opens
returns-in_ok-head-in-Attempt-clause-opens g c = rw c.in-Attempt.is (c.in_ok-head-in-Attempt.ensures, refl)

pub returns-in_ok-head-in-Attempt-clause-failed : goal.returns-in_ok-head-in-Attempt-clause-failed
returns-in_ok-head-in-Attempt-clause-failed g c =
    attempted_failed c.in_ok-head-in-Attempt.head (map kept c.args.tried.first.items) (map kept c.args.tried.second.items)
    c.args.tried.failed c.in_ok-head-in-Attempt.ensures c.requires.told

pub returns-in_ok-head-in-Attempt-clause-after : goal.returns-in_ok-head-in-Attempt-clause-after
returns-in_ok-head-in-Attempt-clause-after g c = nothing_heard _ _ c.args.heard.now c.requires.can.idle
