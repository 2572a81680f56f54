use Rattle.std.proofs.Common.{◌≡◌, ◌&&◌, true, sym, ◌∙◌, arith}
use Rattle.page_model.specs.Forest.{label_in, on}
use Rattle.page_model.specs.Labels.{Root, holds}
use Rattle.page_model.proofs.Shared.{both}
use Rattle.page_tree.specs.Subs.{sub_tree}
use Rattle.page_ops.proofs.Refusals.{insertion_judged}
use Rattle.page_ops.proofs.judge.judge_insert.Goals as goal

pub returns : goal.returns
returns c =
    let p = c.args.parent in
    let t = c.args.tree.now in
    let h : (on p t && holds (label_in Root p t)) ≡ true = sym c.holds_children.ensures ∙ c.if-not-holds_children.false in
    insertion_judged p c.args.place c.number.result (sub_tree c.args.sub.now) t c.in_ok-why.why c.number.ensures.alone h (omega (arith, c.if-place-children.false, c.children.ensures)) (c.in_ok-why.ensures (both (on p t) (holds (label_in Root p t)) h).0)
