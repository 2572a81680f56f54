use Rattle.std.proofs.Common.{refl, sym, ◌∙◌}
use Rattle.tpl_hearing.proofs.Shared.{nothing_heard}
use Rattle.tpl_kept.proofs.renewing.update.hear_first_again.Goals as goal

pub returns-in-Empty-default-clause-opens : goal.returns-in-Empty-default-clause-opens
returns-in-Empty-default-clause-opens g c = rw c.in-Empty-default.is-0 (refl, refl)

pub returns-in-Empty-default-clause-after : goal.returns-in-Empty-default-clause-after
returns-in-Empty-default-clause-after g c = nothing_heard _ _ c.args.hearing.now.heard c.requires.can.idle

pub returns-in_ok-heard-in-Text-Text-clause-opens : goal.returns-in_ok-heard-in-Text-Text-clause-opens
returns-in_ok-heard-in-Text-Text-clause-opens g c = rw c.in-Text-Text.is-0 (c.in_ok-heard-in-Text-Text.heard.0, (refl, c.in_ok-heard-in-Text-Text.ensures.heard))

pub returns-in_ok-heard-in-Tag-Tag-clause-opens : goal.returns-in_ok-heard-in-Tag-Tag-clause-opens
returns-in_ok-heard-in-Tag-Tag-clause-opens g c =
    let l = c.in_ok-heard-in-Tag-Tag.ensures in
    rw c.in-Tag-Tag.is-0 (c.in_ok-heard-in-Tag-Tag.heard.0, (refl, rw c.deref.ensures.value at l.heard))

pub returns-in_ok-heard-in-Choice-Choice-clause-opens : goal.returns-in_ok-heard-in-Choice-Choice-clause-opens
returns-in_ok-heard-in-Choice-Choice-clause-opens g c =
    rw c.in-Choice-Choice.is-0 (c.in_ok-heard-in-Choice-Choice.heard.0, (refl, c.in_ok-heard-in-Choice-Choice.ensures.heard))

pub returns-in_ok-heard-in-Each-Each-clause-opens : goal.returns-in_ok-heard-in-Each-Each-clause-opens
returns-in_ok-heard-in-Each-Each-clause-opens g c = rw c.in-Each-Each.is-0 (c.in_ok-heard-in-Each-Each.heard.0, (refl, c.in_ok-heard-in-Each-Each.ensures.heard))

pub returns-in_ok-both-in-Attempt-Attempt-clause-opens : goal.returns-in_ok-both-in-Attempt-Attempt-clause-opens
returns-in_ok-both-in-Attempt-Attempt-clause-opens g c =
    rw c.in-Attempt-Attempt.is-0 (rw (c.deref-in-Attempt-Attempt.ensures, c.deref-in-Attempt-Attempt-2.ensures) at c.in_ok-both-in-Attempt-Attempt.ensures.opens)

-- ---- so it was heard before

pub returns-in-Empty-default-clause-same : goal.returns-in-Empty-default-clause-same
returns-in-Empty-default-clause-same g c = rw c.in-Empty-default.is-0 (λ e. tt)

pub returns-in_ok-heard-in-Text-Text-clause-same : goal.returns-in_ok-heard-in-Text-Text-clause-same
returns-in_ok-heard-in-Text-Text-clause-same g c = rw c.in-Text-Text.is-0 c.in_ok-heard-in-Text-Text.ensures.same

pub returns-in_ok-heard-in-Tag-Tag-clause-same : goal.returns-in_ok-heard-in-Tag-Tag-clause-same
returns-in_ok-heard-in-Tag-Tag-clause-same g c =
    let l = c.in_ok-heard-in-Tag-Tag.ensures in
    rw c.in-Tag-Tag.is-0 (rw c.deref.ensures.value at l.same)

pub returns-in_ok-heard-in-Choice-Choice-clause-same : goal.returns-in_ok-heard-in-Choice-Choice-clause-same
returns-in_ok-heard-in-Choice-Choice-clause-same g c = rw c.in-Choice-Choice.is-0 c.in_ok-heard-in-Choice-Choice.ensures.same

pub returns-in_ok-heard-in-Each-Each-clause-same : goal.returns-in_ok-heard-in-Each-Each-clause-same
returns-in_ok-heard-in-Each-Each-clause-same g c = rw c.in-Each-Each.is-0 c.in_ok-heard-in-Each-Each.ensures.same

pub returns-in_ok-both-in-Attempt-Attempt-clause-same : goal.returns-in_ok-both-in-Attempt-Attempt-clause-same
returns-in_ok-both-in-Attempt-Attempt-clause-same g c =
    rw c.in-Attempt-Attempt.is-0 (rw (c.deref-in-Attempt-Attempt.ensures, c.deref-in-Attempt-Attempt-2.ensures) at c.in_ok-both-in-Attempt-Attempt.ensures.same)

-- ---- what was heard is of the line's kind

pub listen_again-requires-clause-was : goal.listen_again-requires-clause-was
listen_again-requires-clause-was g c = rw (c.in-Text-Text.is-0, sym c.into_inner.ensures ∙ c.in-Text-Text.is-1) at c.requires.was

pub listen_all_again-requires-clause-was : goal.listen_all_again-requires-clause-was
listen_all_again-requires-clause-was g c = rw c.deref.ensures.value (rw (c.in-Tag-Tag.is-0, sym c.into_inner.ensures ∙ c.in-Tag-Tag.is-1) at c.requires.was)

pub listen_again-requires-in-Choice-Choice-clause-was : goal.listen_again-requires-in-Choice-Choice-clause-was
listen_again-requires-in-Choice-Choice-clause-was g c = rw (c.in-Choice-Choice.is-0, sym c.into_inner.ensures ∙ c.in-Choice-Choice.is-1) at c.requires.was

pub listen_again-requires-in-Each-Each-clause-was : goal.listen_again-requires-in-Each-Each-clause-was
listen_again-requires-in-Each-Each-clause-was g c = rw (c.in-Each-Each.is-0, sym c.into_inner.ensures ∙ c.in-Each-Each.is-1) at c.requires.was

pub attempt_again-requires-clause-was : goal.attempt_again-requires-clause-was
attempt_again-requires-clause-was g c =
    rw (c.deref-in-Attempt-Attempt.ensures, c.deref-in-Attempt-Attempt-2.ensures)
    (rw (c.in-Attempt-Attempt.is-0, sym c.into_inner.ensures ∙ c.in-Attempt-Attempt.is-1) at c.requires.was)
