use Rattle.std.proofs.Common.{map, ◌∙◌}
use Rattle.page_ops.specs.Ops.{op_of}
use Rattle.tpl_blocks.specs.Blocks.{block}
use Rattle.tpl_model.specs.KeptLines.Changes.{changed}
use Rattle.tpl_drawn.specs.Addresses.{number_at}
use Rattle.tpl_model.specs.KeptLines.Kept.{kept}
use Rattle.tpl_model.specs.ShownNodes.Shapes.{mark_of}
use Rattle.tpl_live.specs.Pages.{lines_shape}
use Rattle.tpl_live.proofs.Operated.{compare}
use Rattle.tpl_live.proofs.Planned.{compared_so, many_come, sorted_marks}
use Rattle.tpl_live.proofs.plan.planned.Goals as goal

pub operations-requires : goal.operations-requires
operations-requires c =
    let marks = c.in_ok-marks.marks in
    let page = c.args.page.now in
    (compare c.requires.old (block c.args.lines.now) (kept c.args.memo.now) (changed c.args.change.now) (number_at page.numbers) page.tree page.next
    (map mark_of marks.touched.items) (map mark_of c.in_ok-touched.touched.items) (map mark_of marks.restated.items) c.requires.compares c.in_ok-marks.ensures.touched
    c.in_ok-marks.ensures.restated
    (sorted_marks marks.touched.items c.in_ok-marks.ensures.touched_sorted) (sorted_marks marks.restated.items c.in_ok-marks.ensures.restated_sorted) c.in_ok-touched.ensures).sound

pub returns : goal.returns
returns c =
    let marks = c.in_ok-marks.marks in
    let page = c.args.page.now in
    let b = block c.args.lines.now in
    let m = kept c.args.memo.now in
    let change = changed c.args.change.now in
    let number = number_at page.numbers in
    let all = map mark_of marks.touched.items in
    let ts = map mark_of c.in_ok-touched.touched.items in
    let rs = map mark_of marks.restated.items in
    let plan = c.in_ok-plan.plan in
    let touched_sorted = sorted_marks marks.touched.items c.in_ok-marks.ensures.touched_sorted in
    let restated_sorted = sorted_marks marks.restated.items c.in_ok-marks.ensures.restated_sorted in
    record {
      ops = λ p cmp. compared_so p b m change number page.tree page.next ts rs (map op_of plan.ops.items) plan.next cmp
          (compare p b m change number page.tree page.next all ts rs cmp c.in_ok-marks.ensures.touched c.in_ok-marks.ensures.restated
          touched_sorted restated_sorted c.in_ok-touched.ensures)
          (rw c.deref.ensures.value at c.in_ok-plan.ensures.ops) c.in_ok-plan.ensures.next;
      coming = λ p cmp. c.in_ok-plan.ensures.coming
          ∙ (compare p b m change number page.tree page.next all ts rs cmp c.in_ok-marks.ensures.touched c.in_ok-marks.ensures.restated
          touched_sorted restated_sorted c.in_ok-touched.ensures).order;
      next = many_come c.requires.old (lines_shape b m) ts rs page.next plan.next plan.coming.items c.requires.compares.count
          (compare c.requires.old b m change number page.tree page.next all ts rs c.requires.compares c.in_ok-marks.ensures.touched
          c.in_ok-marks.ensures.restated touched_sorted restated_sorted c.in_ok-touched.ensures)
          c.in_ok-plan.ensures.next c.in_ok-plan.ensures.coming;
    }
