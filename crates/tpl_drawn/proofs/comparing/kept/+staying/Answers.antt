use Rattle.std.proofs.Common.{◌<◌, ◌+◌, ◌++◌, [], None, Some, true, length, map, drop, arith, refl, sym, ap, ◌∙◌, inl, inr}
use Rattle.std.proofs.lemmas.Bool.Decides.{nat_tests}
use Rattle.std.specs.Option.{option_copied}
use Rattle.sig_formula.specs.Trees.{tree}
use Rattle.tpl_blocks.specs.Blocks.{block, waiting}
use Rattle.tpl_model.specs.Lines.{attempt, choice, each, tag, text}
use Rattle.tpl_drawn.specs.Marks.{children_in}
use Rattle.tpl_drawn.specs.Addresses.{number_on}
use Rattle.tpl_model.specs.KeptLines.Kept.{kept}
use Rattle.tpl_drawn.specs.Heads.{table_of}
use Rattle.tpl_drawn.specs.Shown.{inside_of, shows}
use Rattle.tpl_drawn.proofs.Placed.Placed.{unfit_shown}
use Rattle.tpl_model.specs.ShownNodes.Shapes.{child_of}
use Rattle.tpl_model.specs.PageUpdates.PageMemos.{nodes, row_nodes}
use Rattle.tpl_drawn.proofs.Compares.Rows.{all_left, left_of, none_left, one_left, past, rows_gone, staying_row}
use Rattle.tpl_drawn.proofs.Shaped.Behind.{row_shown}
use Rattle.tpl_drawn.proofs.Compares.Siblings.{branch_hidden, branch_shown, branches_stay, lines_stay, no_more}
use Rattle.tpl_drawn.proofs.Compares.Walks.{alone}
use Rattle.tpl_drawn.proofs.comparing.kept.+staying.Goals as goal

-- ---- a branch

pub put_staying_branch-returns-then-not-shows : goal.put_staying_branch-returns-then-not-shows
put_staying_branch-returns-then-not-shows u c = λ known k.
    branch_hidden known (shows (kept c.args.memo.now) c.args.first)
    (nodes (option_copied c.args.key) (block c.args.lines.now) (inside_of (kept c.args.memo.now))) (map child_of c.args.children.now.items)
    (sym c.shows.ensures ∙ c.if-not-shows.true)

pub put_staying_branch-returns : goal.put_staying_branch-returns
put_staying_branch-returns u c = λ known k.
    branch_shown known (shows (kept c.args.memo.now) c.args.first)
    (nodes (option_copied c.args.key) (block c.args.lines.now) (inside_of (kept c.args.memo.now))) (map child_of c.args.children.now.items)
    (map child_of c.put_staying.new.children.items) (sym c.shows.ensures ∙ c.if-not-shows.false)
    (rw c.inside_of.ensures at (c.in_ok-put_staying.ensures known k))

-- ---- rows

pub put_staying_rows-loop-place-init : goal.put_staying_rows-loop-place-init
put_staying_rows-loop-place-init u c =
    all_left true (number_on c.args.page.now) (block c.args.inner.now) c.args.rows.now (map kept c.args.memos.now) [] (alone (map child_of c.args.children.now.items))

pub put_staying_rows-loop-place-preserved : goal.put_staying_rows-loop-place-preserved
put_staying_rows-loop-place-preserved u c =
    let n = c.loop-place.place in
    let rows = c.args.rows.now in
    let memos = c.args.memos.now in
    let there : n < length rows = grind (arith, nat_tests, c.in-Some.ensures.lookup.0) in
    let inner = block c.args.inner.now in
    let m = kept c.index-memos-place.result in
    let before = map child_of c.loop-place.children.items in
    let now = map child_of c.put_staying.new.children.items in
    one_left true (number_on c.args.page.now) inner c.in-Some.row.now m None (drop n rows) (drop (n + 1) rows) (map kept (drop n memos)) (map kept (drop (n + 1) memos))
    [] [] rows (map kept memos) [] (alone before) (alone now) (alone (map child_of c.args.children.now.items))
    (left_of rows n c.in-Some.row.now there c.in-Some.ensures.lookup.1)
    (ap (map kept) (left_of memos n c.index-memos-place.result c.loop-place-test.true c.index-memos-place.is)) (none_left refl refl refl)
    (λ known k. staying_row known (Some c.in-Some.row.now.key) inner m before now (c.in_ok-put_staying.ensures known k)) c.loop-place.invariant

pub put_staying_rows-returns-in_default : goal.put_staying_rows-returns-in_default
put_staying_rows-returns-in_default u c = λ known k t i.
    let n = c.loop-place.place in
    ap (λ w. w.children)
    (rows_gone true (number_on c.args.page.now) (block c.args.inner.now) (drop n c.args.rows.now) (map kept (drop n c.args.memos.now)) [] c.args.rows.now
    (map kept c.args.memos.now) [] (alone (map child_of c.loop-place.children.items)) (alone (map child_of c.args.children.now.items))
    (inl (past c.args.rows.now n (grind (arith, nat_tests, c.in_default.ensures.lookup.0)))) c.loop-place.invariant known k t i)

pub put_staying_rows-returns : goal.put_staying_rows-returns
put_staying_rows-returns u c = λ known k t i.
    let n = c.loop-place.place in
    ap (λ w. w.children)
    (rows_gone true (number_on c.args.page.now) (block c.args.inner.now) (drop n c.args.rows.now) (map kept (drop n c.args.memos.now)) [] c.args.rows.now
    (map kept c.args.memos.now) [] (alone (map child_of c.loop-place.children.items)) (alone (map child_of c.args.children.now.items))
    (inr (ap (map kept) (past c.args.memos.now n (omega arith)))) c.loop-place.invariant known k t i)

-- ---- lines

pub put_staying-returns-then-not-fits : goal.put_staying-returns-then-not-fits
put_staying-returns-then-not-fits u c = λ known k.
    no_more _ _ (ap (children_in known)
    (unfit_shown (option_copied c.args.key) (block c.args.lines.now) (kept c.args.memo.now) (sym c.fits.ensures ∙ c.if-not-fits.true)))

pub put_staying-returns-in-Empty : goal.put_staying-returns-in-Empty
put_staying-returns-in-Empty u c = λ known k. rw c.in-Empty.is (no_more _ _ refl)

pub put_staying-returns-in_ok-put_staying-in-Text : goal.put_staying-returns-in_ok-put_staying-in-Text
put_staying-returns-in_ok-put_staying-in-Text u c = λ known k.
    let fit = rw c.in-Text.is at (sym c.fits.ensures ∙ c.if-not-fits.false) in
    rw c.in-Text.is
    (lines_stay known (option_copied c.args.key) (text c.in-Text.line (tree c.in-Text.field-1) (block c.in-Text.rest.value)) (kept c.args.memo.now)
    (map child_of c.args.children.now.items) (map child_of c.put_staying_text.new.children.items) (map child_of c.put_staying.new.children.items) fit
    (c.in_ok-put_staying_text-in-Text.ensures fit known k) (rw (c.deref.ensures, c.later_of.ensures) at (c.in_ok-put_staying-in-Text.ensures known k)))

pub put_staying-returns-in_ok-put_staying-in-Tag : goal.put_staying-returns-in_ok-put_staying-in-Tag
put_staying-returns-in_ok-put_staying-in-Tag u c = λ known k.
    let fit = rw c.in-Tag.is at (sym c.fits.ensures ∙ c.if-not-fits.false) in
    rw c.in-Tag.is
    (lines_stay known (option_copied c.args.key)
    (tag c.in-Tag.line c.in-Tag.name (waiting c.in-Tag.attributes.items) (block c.in-Tag.inner.value) (block c.in-Tag.rest.value)) (kept c.args.memo.now)
    (map child_of c.args.children.now.items) (map child_of c.put_kept.new.children.items) (map child_of c.put_staying-in-Tag.new.children.items) fit
    (rw (c.deref-in-Tag.ensures.value, c.deref-in-Tag-2.ensures) at (c.in_ok-put_kept-in-Tag.ensures.child known k))
    (rw (c.deref-in-Tag-3.ensures, c.later_of-in-Tag.ensures) at (c.in_ok-put_staying-in-Tag.ensures known k)))

pub put_staying-returns-in_ok-put_staying-in-Choice : goal.put_staying-returns-in_ok-put_staying-in-Choice
put_staying-returns-in_ok-put_staying-in-Choice u c = λ known k.
    let fit = rw c.in-Choice.is at (sym c.fits.ensures ∙ c.if-not-fits.false) in
    let one = block c.in-Choice.one.value in
    let other = block c.in-Choice.other.value in
    let before = map child_of c.args.children.now.items in
    let here = map child_of c.put_staying_branch-in-Choice.new.children.items in
    rw c.in-Choice.is
    (lines_stay known (option_copied c.args.key) (choice (tree c.in-Choice.field-0) one other (block c.in-Choice.rest.value)) (kept c.args.memo.now)
    before here (map child_of c.put_staying-in-Choice.new.children.items) fit
    (branches_stay known (option_copied c.args.key) one other (kept c.args.memo.now) before (map child_of c.put_staying_branch.new.children.items) here
    (rw c.deref-in-Choice.ensures at (c.in_ok-put_staying_branch-in-Choice.ensures known k))
    (rw c.deref-in-Choice-2.ensures at (c.in_ok-put_staying_branch-in-Choice-2.ensures known k)))
    (rw (c.deref-in-Choice-3.ensures, c.later_of-in-Choice.ensures) at (c.in_ok-put_staying-in-Choice.ensures known k)))

pub put_staying-returns-in_ok-put_staying-in-Each : goal.put_staying-returns-in_ok-put_staying-in-Each
put_staying-returns-in_ok-put_staying-in-Each u c = λ known k.
    let fit = rw c.in-Each.is at (sym c.fits.ensures ∙ c.if-not-fits.false) in
    let inner = block c.in-Each.inner.value in
    let m = kept c.args.memo.now in
    let before = map child_of c.args.children.now.items in
    rw c.in-Each.is
    (lines_stay known (option_copied c.args.key) (each (tree c.in-Each.field-0) inner (block c.in-Each.rest.value)) m
    before (map child_of c.put_staying_rows.new.children.items) (map child_of c.put_staying-in-Each.new.children.items) fit
    (rw c.deref-in-Each.ensures at (c.in_ok-put_staying_rows-in-Each.ensures known k (table_of m) 0)
    ∙ ap (λ z. before ++ children_in known (row_nodes (row_shown inner) z)) c.loop_of.ensures)
    (rw (c.deref-in-Each-2.ensures, c.later_of-in-Each.ensures) at (c.in_ok-put_staying-in-Each.ensures known k)))

pub put_staying-returns-in_ok-put_staying-in-Attempt : goal.put_staying-returns-in_ok-put_staying-in-Attempt
put_staying-returns-in_ok-put_staying-in-Attempt u c = λ known k.
    let fit = rw c.in-Attempt.is at (sym c.fits.ensures ∙ c.if-not-fits.false) in
    let first = block c.in-Attempt.first.value in
    let second = block c.in-Attempt.second.value in
    let before = map child_of c.args.children.now.items in
    let here = map child_of c.put_staying_branch-in-Attempt-2.new.children.items in
    rw c.in-Attempt.is
    (lines_stay known (option_copied c.args.key) (attempt first second (block c.in-Attempt.rest.value)) (kept c.args.memo.now)
    before here (map child_of c.put_staying-in-Attempt.new.children.items) fit
    (branches_stay known (option_copied c.args.key) first second (kept c.args.memo.now) before (map child_of c.put_staying_branch-in-Attempt.new.children.items) here
    (rw c.deref-in-Attempt.ensures at (c.in_ok-put_staying_branch-in-Attempt.ensures known k))
    (rw c.deref-in-Attempt-2.ensures at (c.in_ok-put_staying_branch-in-Attempt-2.ensures known k)))
    (rw (c.deref-in-Attempt-3.ensures, c.later_of-in-Attempt.ensures) at (c.in_ok-put_staying-in-Attempt.ensures known k)))
