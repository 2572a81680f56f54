use Rattle.std.proofs.Common.{map, arith}
use Rattle.page_ops.specs.Ops.{op_of}
use Rattle.tpl_blocks.specs.Blocks.{block}
use Rattle.tpl_model.specs.KeptLines.Changes.{changed}
use Rattle.tpl_drawn.specs.Addresses.{number_at}
use Rattle.tpl_drawn.specs.Lines.{line_at}
use Rattle.tpl_model.specs.KeptLines.Kept.{kept}
use Rattle.tpl_live.specs.Pages.{lines_shape}
use Rattle.tpl_live.proofs.Carried.{carried_on, lined_on, many_now}
use Rattle.tpl_live.proofs.Planned.{leads_there}
use Rattle.tpl_live.proofs.plan.carry.Goals as goal

pub apply_all-requires-clause-brings : goal.apply_all-requires-clause-brings
apply_all-requires-clause-brings c =
    rw c.deref.ensures.value (c.in_ok-plan.ensures.ops c.requires.old c.requires.compares).brings

pub apply_all-requires-clause-leads : goal.apply_all-requires-clause-leads
apply_all-requires-clause-leads c =
    let shape = lines_shape (block c.args.lines.now) (kept c.args.memo.now) in
    let plan = c.in_ok-plan.plan in
    rw c.deref.ensures.value
    (leads_there c.requires.old shape c.args.nodes.now.tree (map op_of plan.ops.items) plan.next c.requires.compares.stands
    (c.in_ok-plan.ensures.ops c.requires.old c.requires.compares))

pub renumber-requires-clause-many : goal.renumber-requires-clause-many
renumber-requires-clause-many c =
    let plan = c.in_ok-plan.plan in
    let nodes = c.args.nodes.now in
    many_now c.requires.old (block c.args.lines.now) (kept c.args.memo.now) (changed c.args.change.now) (number_at nodes.numbers) nodes.tree
    c.apply_all.new.tree nodes.next (map op_of plan.ops.items) plan.next c.requires.compares (c.in_ok-plan.ensures.ops c.requires.old c.requires.compares)
    (rw c.deref.ensures.value at c.in_ok-apply_all.ensures)

pub renumber-requires-clause-room : goal.renumber-requires-clause-room
renumber-requires-clause-room c = (let n = c.in_ok-plan.ensures.next in omega (arith, n))

pub returns-clause-carries : goal.returns-clause-carries
returns-clause-carries c = λ p cmp.
    let plan = c.in_ok-plan.plan in
    let nodes = c.args.nodes.now in
    carried_on p (block c.args.lines.now) (kept c.args.memo.now) (changed c.args.change.now) (number_at nodes.numbers)
    (number_at c.renumber.new.numbers) nodes.tree c.apply_all.new.tree nodes.next (map op_of plan.ops.items) plan.next plan.coming.items cmp
    (c.in_ok-plan.ensures.ops p cmp) (rw c.deref.ensures.value at c.in_ok-apply_all.ensures) (c.in_ok-plan.ensures.coming p cmp) c.in_ok-renumber.ensures.numbers

pub returns-clause-lines : goal.returns-clause-lines
returns-clause-lines c = λ p cmp old.
    let plan = c.in_ok-plan.plan in
    let nodes = c.args.nodes.now in
    lined_on p (block c.args.lines.now) (kept c.args.memo.now) (changed c.args.change.now) (number_at nodes.numbers)
    (line_at nodes.numbers) (line_at c.renumber.new.numbers) nodes.tree c.apply_all.new.tree nodes.next (map op_of plan.ops.items) plan.next plan.coming.items cmp
    (c.in_ok-plan.ensures.ops p cmp) (rw c.deref.ensures.value at c.in_ok-apply_all.ensures) (c.in_ok-plan.ensures.coming p cmp) c.in_ok-renumber.ensures.lines old
