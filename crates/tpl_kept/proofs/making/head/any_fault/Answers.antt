use Rattle.std.proofs.Common.{ap, map, sym, take, ◌∙◌}
use Rattle.std.specs.Prelude.{◌||◌}
use Rattle.tpl_model.specs.KeptLines.Kept.{heard_of}
use Rattle.tpl_model.specs.PageUpdates.PageMemos.{any_fault}
use Rattle.tpl_kept.proofs.Listened.Sequences.{faults_more, mapped_more}
use Rattle.tpl_kept.proofs.making.head.any_fault.Goals as goal

pub loop-heard-preserved : goal.loop-heard-preserved
loop-heard-preserved c =
    let i = c.loop-heard.heard-index in
    let all = c.args.all.now in
    let x = c.heard-item.result in
    c.either_failed-failed.ensures
    ∙ ((λ j. c.loop-heard.invariant j || c.is_fault.ensures j)
    ∙ (sym (faults_more (map heard_of (take i all)) (heard_of x)) ∙ sym (ap any_fault (mapped_more heard_of all i x c.loop-heard-test.true c.heard-item.is))))
