use Rattle.std.proofs.Common.{◌≡◌, ◌<◌, ◌+◌, ◌++◌, length, map, take, slice_get, arith, refl, sym, ap, ◌∙◌}
use Rattle.std.proofs.lemmas.Bool.Decides.{nat_tests}
use Rattle.std.proofs.lemmas.Option.{slice_get_read}
use Rattle.std.specs.Option.{option_copied}
use Rattle.sig_formula.specs.Trees.{tree}
use Rattle.page_model.specs.Forest.{after, node, none}
use Rattle.page_model.specs.Labels.{Element}
use Rattle.tpl_blocks.specs.Blocks.{block, waiting}
use Rattle.tpl_model.specs.Lines.{attempt, choice, each, tag, text}
use Rattle.tpl_model.specs.KeptLines.Kept.{heard_of, kept}
use Rattle.tpl_drawn.specs.Heads.{table_of}
use Rattle.tpl_drawn.specs.Shown.{attributes_of, inside_of, shows}
use Rattle.tpl_drawn.proofs.Placed.Placed.{mapped_more}
use Rattle.tpl_model.specs.ShownNodes.Shapes.{all_shown}
use Rattle.tpl_model.specs.PageUpdates.PageMemos.{nodes, row_nodes, values}
use Rattle.tpl_drawn.proofs.Shaped.Behind.{branch_off, branch_on, branches_more, lines_more, no_more, no_rows, one_row, row_shown, rows_all, rows_past, taken_many, unfit_more}
use Rattle.tpl_drawn.proofs.shown.nodes.+showing.Goals as goal

-- ---- an element

pub put_element-returns : goal.put_element-returns
put_element-returns u c =
    let m = kept c.args.memo.now in
    let all = waiting c.args.attributes.now in
    let inside = nodes (option_copied c.args.key) (block c.args.inner.now) (inside_of m) in
    let read : c.put_attributes.new.out.items ≡ values all (attributes_of m) =
    c.in_ok-put_attributes.ensures ∙ (ap (λ z. z ++ values all (map heard_of c.attributes_of.result.now)) c.new-values.ensures.items
    ∙ ap (values all) c.attributes_of.ensures) in
    let below : all_shown c.put_shown.new.out.items ≡ inside =
    rw c.inside_of.ensures at c.in_ok-put_shown.ensures ∙ ap (λ z. after (all_shown z) inside) c.new-children.ensures.items in
    c.in_ok-put.ensures
    ∙ ap (after (all_shown c.args.out.now.items))
    (c.element-node.ensures ∙ (λ i. node (c.in_ok-address.ensures i) (Element (c.in_ok-name.ensures i) (read i)) (below i) none))

-- ---- a branch

pub put_branch-returns-then-not-shows : goal.put_branch-returns-then-not-shows
put_branch-returns-then-not-shows u c =
    branch_off (shows (kept c.args.memo.now) c.args.first) (nodes (option_copied c.args.key) (block c.args.lines.now) (inside_of (kept c.args.memo.now)))
    (all_shown c.args.out.now.items) (sym c.shows.ensures ∙ c.if-not-shows.true)

pub put_branch-returns : goal.put_branch-returns
put_branch-returns u c =
    branch_on (shows (kept c.args.memo.now) c.args.first) (nodes (option_copied c.args.key) (block c.args.lines.now) (inside_of (kept c.args.memo.now)))
    (all_shown c.args.out.now.items) (all_shown c.put_shown.new.out.items) (sym c.shows.ensures ∙ c.if-not-shows.false)
    (rw c.inside_of.ensures at c.in_ok-put_shown.ensures)

-- ---- rows

pub put_rows-loop-place-init : goal.put_rows-loop-place-init
put_rows-loop-place-init u c = no_rows (block c.args.inner.now) c.args.rows.now _ (all_shown c.args.out.now.items) refl

pub put_rows-loop-place-preserved : goal.put_rows-loop-place-preserved
put_rows-loop-place-preserved u c =
    let xs = c.args.memos.now in
    let n = c.loop-place.place in
    let lt = c.loop-place-test.true in
    let there : n < length c.args.rows.now = grind (arith, nat_tests, c.in-Some.ensures.lookup.0) in
    let at = slice_get_read c.args.rows.now (length c.args.rows.now) n c.in-Some.row.now refl there c.in-Some.ensures.lookup.1 in
    one_row (block c.args.inner.now) c.args.rows.now (map kept (take n xs)) (map kept (take (n + 1) xs)) (kept c.index-memos-place.result) c.in-Some.row.now
    (all_shown c.args.out.now.items) (all_shown c.loop-place.out.items) (all_shown c.put_shown.new.out.items)
    (ap (slice_get c.args.rows.now) (taken_many kept xs n lt) ∙ at) (mapped_more kept xs n c.index-memos-place.result lt c.index-memos-place.is)
    c.loop-place.invariant c.in_ok-put_shown.ensures

pub put_rows-returns-in_default : goal.put_rows-returns-in_default
put_rows-returns-in_default u c = λ t i.
    (rows_past (block c.args.inner.now) c.args.rows.now c.args.memos.now c.loop-place.place (all_shown c.args.out.now.items) (all_shown c.loop-place.out.items)
    (grind (arith, nat_tests, c.in_default.ensures.lookup.0)) c.loop-place.invariant).are t i

pub put_rows-returns : goal.put_rows-returns
put_rows-returns u c = λ t i.
    (rows_all (block c.args.inner.now) c.args.rows.now c.args.memos.now c.loop-place.place (all_shown c.args.out.now.items) (all_shown c.loop-place.out.items)
    (omega arith) c.loop-place.invariant).are t i

-- ---- lines

pub put_shown-returns-then-not-fits : goal.put_shown-returns-then-not-fits
put_shown-returns-then-not-fits u c =
    unfit_more (option_copied c.args.key) (block c.args.lines.now) (kept c.args.memo.now) (all_shown c.args.out.now.items) (sym c.fits.ensures ∙ c.if-not-fits.true)

pub put_shown-returns-in-Empty : goal.put_shown-returns-in-Empty
put_shown-returns-in-Empty u c = rw c.in-Empty.is (no_more _ _ refl)

pub put_shown-returns-in_ok-put_shown-in-Text : goal.put_shown-returns-in_ok-put_shown-in-Text
put_shown-returns-in_ok-put_shown-in-Text u c =
    let fit = rw c.in-Text.is at (sym c.fits.ensures ∙ c.if-not-fits.false) in
    rw c.in-Text.is
    (lines_more (option_copied c.args.key) (text c.in-Text.line (tree c.in-Text.field-1) (block c.in-Text.rest.value)) (kept c.args.memo.now)
    (all_shown c.args.out.now.items) (all_shown c.put_text.new.out.items) (all_shown c.put_shown.new.out.items) fit c.in_ok-put_text-in-Text.ensures
    (rw (c.deref.ensures, c.later_of.ensures) at c.in_ok-put_shown-in-Text.ensures))

pub put_shown-returns-in_ok-put_shown-in-Tag : goal.put_shown-returns-in_ok-put_shown-in-Tag
put_shown-returns-in_ok-put_shown-in-Tag u c =
    let fit = rw c.in-Tag.is at (sym c.fits.ensures ∙ c.if-not-fits.false) in
    rw c.in-Tag.is
    (lines_more (option_copied c.args.key)
    (tag c.in-Tag.line c.in-Tag.name (waiting c.in-Tag.attributes.items) (block c.in-Tag.inner.value) (block c.in-Tag.rest.value))
    (kept c.args.memo.now) (all_shown c.args.out.now.items) (all_shown c.put_element.new.out.items) (all_shown c.put_shown-in-Tag.new.out.items) fit
    (rw (c.deref-in-Tag.ensures.value, c.deref-in-Tag-2.ensures) at c.in_ok-put_element-in-Tag.ensures)
    (rw (c.deref-in-Tag-3.ensures, c.later_of-in-Tag.ensures) at c.in_ok-put_shown-in-Tag.ensures))

pub put_shown-returns-in_ok-put_shown-in-Choice : goal.put_shown-returns-in_ok-put_shown-in-Choice
put_shown-returns-in_ok-put_shown-in-Choice u c =
    let fit = rw c.in-Choice.is at (sym c.fits.ensures ∙ c.if-not-fits.false) in
    let one = block c.in-Choice.one.value in
    let other = block c.in-Choice.other.value in
    let here = all_shown c.put_branch-in-Choice.new.out.items in
    rw c.in-Choice.is
    (lines_more (option_copied c.args.key) (choice (tree c.in-Choice.field-0) one other (block c.in-Choice.rest.value))
    (kept c.args.memo.now) (all_shown c.args.out.now.items) here (all_shown c.put_shown-in-Choice.new.out.items) fit
    (branches_more (option_copied c.args.key) one other (kept c.args.memo.now) (all_shown c.args.out.now.items) (all_shown c.put_branch.new.out.items) here
    (rw c.deref-in-Choice.ensures at c.in_ok-put_branch-in-Choice.ensures) (rw c.deref-in-Choice-2.ensures at c.in_ok-put_branch-in-Choice-2.ensures))
    (rw (c.deref-in-Choice-3.ensures, c.later_of-in-Choice.ensures) at c.in_ok-put_shown-in-Choice.ensures))

pub put_shown-returns-in_ok-put_shown-in-Each : goal.put_shown-returns-in_ok-put_shown-in-Each
put_shown-returns-in_ok-put_shown-in-Each u c =
    let fit = rw c.in-Each.is at (sym c.fits.ensures ∙ c.if-not-fits.false) in
    let inner = block c.in-Each.inner.value in
    let m = kept c.args.memo.now in
    rw c.in-Each.is
    (lines_more (option_copied c.args.key) (each (tree c.in-Each.field-0) inner (block c.in-Each.rest.value)) m
    (all_shown c.args.out.now.items) (all_shown c.put_rows.new.out.items) (all_shown c.put_shown-in-Each.new.out.items) fit
    (rw c.deref-in-Each.ensures at (c.in_ok-put_rows-in-Each.ensures (table_of m) 0)
    ∙ ap (λ z. after (all_shown c.args.out.now.items) (row_nodes (row_shown inner) z)) c.loop_of.ensures)
    (rw (c.deref-in-Each-2.ensures, c.later_of-in-Each.ensures) at c.in_ok-put_shown-in-Each.ensures))

pub put_shown-returns-in_ok-put_shown-in-Attempt : goal.put_shown-returns-in_ok-put_shown-in-Attempt
put_shown-returns-in_ok-put_shown-in-Attempt u c =
    let fit = rw c.in-Attempt.is at (sym c.fits.ensures ∙ c.if-not-fits.false) in
    let first = block c.in-Attempt.first.value in
    let second = block c.in-Attempt.second.value in
    let here = all_shown c.put_branch-in-Attempt-2.new.out.items in
    rw c.in-Attempt.is
    (lines_more (option_copied c.args.key) (attempt first second (block c.in-Attempt.rest.value))
    (kept c.args.memo.now) (all_shown c.args.out.now.items) here (all_shown c.put_shown-in-Attempt.new.out.items) fit
    (branches_more (option_copied c.args.key) first second (kept c.args.memo.now) (all_shown c.args.out.now.items) (all_shown c.put_branch-in-Attempt.new.out.items) here
    (rw c.deref-in-Attempt.ensures at c.in_ok-put_branch-in-Attempt.ensures) (rw c.deref-in-Attempt-2.ensures at c.in_ok-put_branch-in-Attempt-2.ensures))
    (rw (c.deref-in-Attempt-3.ensures, c.later_of-in-Attempt.ensures) at c.in_ok-put_shown-in-Attempt.ensures))
