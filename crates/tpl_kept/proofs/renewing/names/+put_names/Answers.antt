use Rattle.std.proofs.Common.{◌+◌, ◌++◌, map, take, ap, ◌∙◌, arith}
use Rattle.std.specs.Box.{box_value}
use Rattle.tpl_model.specs.PageUpdates.PageMemos.{all_names, names}
use Rattle.tpl_model.specs.KeptLines.Kept.{heard_of, kept}
use Rattle.tpl_model.proofs.MemoEquations.{kept_blank, kept_branch, kept_either, kept_element, kept_line, kept_loop, kept_unread}
use Rattle.tpl_kept.proofs.Renewals.Named.{branch_put, either_put, element_put, line_put, loop_put, nothing_put, row_put, rows_put}
use Rattle.tpl_kept.proofs.renewing.names.+put_names.Goals as goal

pub loop-row-preserved : goal.loop-row-preserved
loop-row-preserved t c =
    row_put kept c.as_many-row-items.result.now c.loop-row.row-index c.row-item.result c.put_all-in-Loop.new.out.items c.loop-row.out.items
    c.put_names-in-loop-row.new.out.items c.loop-row-test.true c.row-item.is c.loop-row.invariant c.in_ok-put_names-in-Loop.ensures

pub returns-in-Unread : goal.returns-in-Unread
returns-in-Unread t c = nothing_put (kept c.args.memo.now) c.args.out.now.items (ap names (ap kept c.in-Unread.is ∙ kept_unread))

pub returns-in-Blank : goal.returns-in-Blank
returns-in-Blank t c = nothing_put (kept c.args.memo.now) c.args.out.now.items (ap names (ap kept c.in-Blank.is ∙ kept_blank))

pub returns-in_ok-put_names-in-Line : goal.returns-in_ok-put_names-in-Line
returns-in_ok-put_names-in-Line t c =
    line_put (heard_of c.in-Line.line) (kept (box_value c.in-Line.rest)) (kept c.args.memo.now) c.args.out.now.items c.put_all.new.out.items
    c.put_names.new.out.items (ap kept c.in-Line.is ∙ kept_line c.in-Line.line c.in-Line.rest)
    (c.in_ok-put_all-in-Line.ensures ∙ ap (λ z. c.args.out.now.items ++ z) c.deref.ensures.value)
    (c.in_ok-put_names-in-Line.ensures ∙ ap (λ z. c.put_all.new.out.items ++ names (kept z)) c.deref-in-Line.ensures)

pub returns-in_ok-put_names-in-Element-2 : goal.returns-in_ok-put_names-in-Element-2
returns-in_ok-put_names-in-Element-2 t c =
    element_put (map heard_of c.in-Element.all.items) (kept (box_value c.in-Element.inner)) (kept (box_value c.in-Element.rest)) (kept c.args.memo.now)
    c.args.out.now.items c.put_each.new.out.items c.put_names-in-Element.new.out.items c.put_names-in-Element-2.new.out.items
    (ap kept c.in-Element.is ∙ kept_element c.in-Element.all c.in-Element.inner c.in-Element.rest)
    (c.in_ok-put_each-in-Element.ensures ∙ ap (λ z. c.args.out.now.items ++ all_names (map heard_of z)) c.deref-in-Element.ensures.value)
    (c.in_ok-put_names-in-Element.ensures ∙ ap (λ z. c.put_each.new.out.items ++ names (kept z)) c.deref-in-Element-2.ensures)
    (c.in_ok-put_names-in-Element-2.ensures ∙ ap (λ z. c.put_names-in-Element.new.out.items ++ names (kept z)) c.deref-in-Element-3.ensures)

pub returns-in_ok-put_names-in-Either-3 : goal.returns-in_ok-put_names-in-Either-3
returns-in_ok-put_names-in-Either-3 t c =
    either_put (kept (box_value c.in-Either.first)) (kept (box_value c.in-Either.second)) (kept (box_value c.in-Either.rest)) (kept c.args.memo.now)
    c.args.out.now.items c.put_names-in-Either.new.out.items c.put_names-in-Either-2.new.out.items c.put_names-in-Either-3.new.out.items
    (ap kept c.in-Either.is ∙ kept_either c.in-Either.first c.in-Either.second c.in-Either.rest)
    (c.in_ok-put_names-in-Either.ensures ∙ ap (λ z. c.args.out.now.items ++ names (kept z)) c.deref-in-Either.ensures)
    (c.in_ok-put_names-in-Either-2.ensures ∙ ap (λ z. c.put_names-in-Either.new.out.items ++ names (kept z)) c.deref-in-Either-2.ensures)
    (c.in_ok-put_names-in-Either-3.ensures ∙ ap (λ z. c.put_names-in-Either-2.new.out.items ++ names (kept z)) c.deref-in-Either-3.ensures)

pub returns-in_ok-put_names-in-Branch-2 : goal.returns-in_ok-put_names-in-Branch-2
returns-in_ok-put_names-in-Branch-2 t c =
    branch_put (heard_of c.in-Branch.test) (kept (box_value c.in-Branch.inner)) (kept (box_value c.in-Branch.rest)) (kept c.args.memo.now)
    c.args.out.now.items c.put_all-in-Branch.new.out.items c.put_names-in-Branch.new.out.items c.put_names-in-Branch-2.new.out.items
    (ap kept c.in-Branch.is ∙ kept_branch c.in-Branch.test c.in-Branch.inner c.in-Branch.rest)
    (c.in_ok-put_all-in-Branch.ensures ∙ ap (λ z. c.args.out.now.items ++ z) c.deref-in-Branch.ensures.value)
    (c.in_ok-put_names-in-Branch.ensures ∙ ap (λ z. c.put_all-in-Branch.new.out.items ++ names (kept z)) c.deref-in-Branch-2.ensures)
    (c.in_ok-put_names-in-Branch-2.ensures ∙ ap (λ z. c.put_names-in-Branch.new.out.items ++ names (kept z)) c.deref-in-Branch-3.ensures)

pub returns-in_ok-put_names-in-Loop-2 : goal.returns-in_ok-put_names-in-Loop-2
returns-in_ok-put_names-in-Loop-2 t c =
    let past = c.loop-row-test.false in
    loop_put (heard_of c.in-Loop.line) (map kept c.in-Loop.rows.items) c.row_count-count.result (kept (box_value c.in-Loop.rest)) (kept c.args.memo.now)
    c.args.out.now.items c.put_all-in-Loop.new.out.items c.loop-row.out.items c.put_names-in-Loop.new.out.items
    (ap kept c.in-Loop.is ∙ kept_loop c.in-Loop.line c.in-Loop.rows c.in-Loop.rest) c.row_count-count.ensures
    (c.in_ok-put_all-in-Loop.ensures ∙ ap (λ z. c.args.out.now.items ++ z) c.deref-in-Loop.ensures.value)
    (rows_put kept c.in-Loop.rows.items c.as_many-row-items.result.now c.row_count-count.result c.loop-row.row-index c.put_all-in-Loop.new.out.items
    c.loop-row.out.items (c.as_many-row-items.ensures ∙ ap (take c.row_count-count.result) c.deref-in-Loop-2.ensures.value) (omega (arith, past)) c.loop-row.invariant)
    (c.in_ok-put_names-in-Loop-2.ensures ∙ ap (λ z. c.loop-row.out.items ++ names (kept z)) c.deref-in-Loop-3.ensures)
