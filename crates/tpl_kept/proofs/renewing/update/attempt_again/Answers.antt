use Rattle.std.specs.Box.{box_value}
use Rattle.std.specs.Option.{option_copied}
use Rattle.std.proofs.Common.{◌++◌, ◌∙◌, false, refl, true}
use Rattle.tpl_blocks.specs.Blocks.{block}
use Rattle.tpl_hearing.proofs.Shared.{still_compared, then_heard}
use Rattle.tpl_model.specs.KeptLines.Kept.{kept}
use Rattle.tpl_model.specs.PageUpdates.PageMemos.{blank, either, names}
use Rattle.tpl_kept.proofs.Listened.Reuse.{attempt_remade, attempt_stayed}
use Rattle.tpl_kept.proofs.Listened.Splits.{again_as}
use Rattle.tpl_kept.proofs.renewing.update.attempt_again.Goals as goal

pub returns-then-branch-clause-opens : goal.returns-then-branch-clause-opens
returns-then-branch-clause-opens g c =
    let x = kept (box_value c.args.one) in
    let y = kept (box_value c.args.two) in
    let ids = c.deref-3.ensures.value
    ∙ (c.in_ok-put_names-2.ensures
    ∙ (λ j. (c.in_ok-put_names.ensures ∙ (λ i. c.new-ids.ensures.items i ++ names (kept (c.deref.ensures i)))) j ++ names (kept (c.deref-2.ensures j)))) in (
      c.args.one,
      c.args.two,
      (
        refl,
        attempt_stayed (block c.args.first.now) (block c.args.second.now) c.args.links.now (option_copied c.args.row) c.args.before.now c.args.hearing.now.heard
            c.hear_again.new.hearing.heard x y c.requires.was
            (again_as c.in_ok-hear_again.field-0 true c.args.before.now c.deref-3.result.now (names x ++ names y) c.args.hearing.now.heard
            c.hear_again.new.hearing.heard c.if-branch.true ids c.in_ok-hear_again.ensures.again),
      ),
    )

pub returns-then-branch-clause-same : goal.returns-then-branch-clause-same
returns-then-branch-clause-same g c = λ e. c.requires.was

pub returns-clause-opens : goal.returns-clause-opens
returns-clause-opens g c =
    let x = kept (box_value c.args.one) in
    let y = kept (box_value c.args.two) in
    let ids = c.deref-3.ensures.value
    ∙ (c.in_ok-put_names-2.ensures
    ∙ (λ j. (c.in_ok-put_names.ensures ∙ (λ i. c.new-ids.ensures.items i ++ names (kept (c.deref.ensures i)))) j ++ names (kept (c.deref-2.ensures j)))) in
    let o = c.in_ok-next.ensures.opens in (
      o.0,
      o.1,
      (
        o.2.0,
        attempt_remade (block c.args.first.now) (block c.args.second.now) c.args.links.now (option_copied c.args.row) c.args.before.now c.args.hearing.now.heard
            c.hear_again.new.hearing.heard c.hear_attempt.new.heard x y (either (kept (box_value o.0)) (kept (box_value o.1)) blank) c.requires.was
            (again_as c.in_ok-hear_again.field-0 false c.args.before.now c.deref-3.result.now (names x ++ names y) c.args.hearing.now.heard
            c.hear_again.new.hearing.heard c.if-branch.false ids c.in_ok-hear_again.ensures.again)
            c.in_ok-next.ensures.after.grows o.2.1,
      ),
    )

pub returns-clause-after : goal.returns-clause-after
returns-clause-after g c = then_heard _ _ _ _ _ _ _ _ _ c.in_ok-hear_again.ensures.after c.in_ok-next.ensures.after

pub returns-clause-compared : goal.returns-clause-compared
returns-clause-compared g c =
    still_compared c.args.before.now c.hear_again.new.hearing.heard c.hear_attempt.new.heard c.hear_again.new.hearing.compared c.in_ok-next.ensures.after.grows
    c.in_ok-hear_again.ensures.compared
