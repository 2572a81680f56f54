use Rattle.std.proofs.Common.{◌≡◌, ◌+◌, not, length, drop, map, slice_get, sym, ap, ◌∙◌, arith}
use Rattle.std.specs.Prelude.{is_some}
use Rattle.std.proofs.lemmas.List.{drop_all}
use Rattle.tpl_model.specs.ShownNodes.Shapes.{child_of}
use Rattle.tpl_live.specs.Plans.{stay_as, stays_at}
use Rattle.tpl_live.proofs.Planned.{left_split}
use Rattle.tpl_live.proofs.Staying.{all_stay, not_not, one_leaves, one_stays}
use Rattle.tpl_live.proofs.plan.stay_as.Goals as goal

pub loop-place-preserved : goal.loop-place-preserved
loop-place-preserved c =
    let i = c.loop-place.place in
    let xs = c.args.children.now in
    let ns = c.args.numbers.now in
    let x = c.index-children-place.result in
    one_stays (child_of x) (map child_of (drop i xs)) (map child_of (drop (i + 1) xs)) ns i (stay_as (map child_of xs) ns)
    (left_split child_of xs i x c.loop-place-test.true c.index-children-place.is)
    (ap (stays_at (child_of x)) (sym c.number_there.ensures) ∙ (sym c.stays_at.ensures ∙ c.if-not-stays_at.false)) c.loop-place.invariant

pub returns-then-not-stays_at : goal.returns-then-not-stays_at
returns-then-not-stays_at c =
    let i = c.loop-place.place in
    let xs = c.args.children.now in
    let ns = c.args.numbers.now in
    let x = c.index-children-place.result in
    one_leaves (child_of x) (map child_of (drop i xs)) (map child_of (drop (i + 1) xs)) ns i (stay_as (map child_of xs) ns)
    (left_split child_of xs i x c.loop-place-test.true c.index-children-place.is)
    (ap (stays_at (child_of x)) (sym c.number_there.ensures) ∙ (sym c.stays_at.ensures ∙ c.if-not-stays_at.true)) c.loop-place.invariant

pub returns : goal.returns
returns c =
    let i = c.loop-place.place in
    let xs = c.args.children.now in
    let ns = c.args.numbers.now in
    let last : i ≡ length xs = omega arith in
    sym (not_not c.is_none.result)
    ∙ (sym (ap not c.is_none.ensures)
    ∙ (ap (λ z. not (is_some z)) (c.number_there-2.ensures ∙ ap (slice_get ns) (sym last))
    ∙ all_stay (map child_of (drop i xs)) ns i (stay_as (map child_of xs) ns) (ap (map child_of) (drop_all i xs c.loop-place-test.false)) c.loop-place.invariant))
