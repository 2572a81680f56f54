use Rattle.std.proofs.Common.{◌≡◌, ◌<◌, ◌+◌, ◌++◌, [], ◌∷◌, Some, true, false, not, length, map, drop, arith, refl, sym, ap, ◌∙◌, inl, inr}
use Rattle.std.proofs.lemmas.Bool.Decides.{nat_tests}
use Rattle.std.proofs.lemmas.List.{map-append}
use Rattle.std.specs.Box.{box_value}
use Rattle.std.specs.Option.{option_copied}
use Rattle.page_model.specs.Addresses.{address}
use Rattle.page_model.specs.Labels.{Element}
use Rattle.tpl_blocks.specs.Blocks.{block, waiting}
use Rattle.tpl_model.specs.KeptLines.Changes.{chain, changed, first_in, over, same_before}
use Rattle.tpl_model.proofs.ChangeEquations.{changed_first, changed_made, changed_over, changed_same, changed_stays, none_before, one_less}
use Rattle.tpl_drawn.specs.Addresses.{number_on}
use Rattle.tpl_model.specs.KeptLines.Kept.{heard_of, kept}
use Rattle.tpl_drawn.specs.Heads.{table_of}
use Rattle.tpl_drawn.specs.Shown.{attributes_of, inside_of, shows}
use Rattle.tpl_model.specs.ShownNodes.Shapes.{child_of, mark_of}
use Rattle.tpl_model.specs.PageUpdates.PageMemos.{nodes, values}
use Rattle.tpl_drawn.specs.Walks.{as_listed, further, of_lines, of_rows, of_tried, or_stays, walk_of, where_gone}
use Rattle.tpl_drawn.proofs.Compares.Rows.{all_left, item_at, left_of, one_left, past, rows_gone, told_at}
use Rattle.tpl_drawn.proofs.Shaped.Behind.{behind}
use Rattle.tpl_drawn.proofs.Compares.Walks.{alone_listed, branch_off, branch_on, element_goes, element_quiet, first_gone, first_none, first_some, inside_goes, inside_keeps, inside_stays, kept_goes, kept_same, made_gone, none_gone, none_listed, parts_gone, put_staying_gone, stays_alone, stays_gone, unfit_gone, unknown_element}
use Rattle.tpl_drawn.proofs.comparing.comparer.+comparing.Goals as goal

-- ---- the first of some parts

pub compare_first-returns-in_default : goal.compare_first-returns-in_default
compare_first-returns-in_default u c = λ known k.
    let key = option_copied c.args.key in
    let m = kept c.args.memo.now in
    c.in_ok-put_made.ensures known k
    ∙ ap (λ z. further (walk_of c.args.children.now.items c.args.out.now) (as_listed c.args.listed z))
    (made_gone known key (block c.args.lines.now) m
    ∙ ap (of_lines known key (block c.args.lines.now) m) (first_none c.args.inside.now (sym c.first.ensures.value ∙ ap option_copied c.in_default.is)))

pub compare_first-returns : goal.compare_first-returns
compare_first-returns u c = λ known k.
    c.in_ok-compare_lines.ensures known k
    ∙ ap (λ z. further (walk_of c.args.children.now.items c.args.out.now)
    (as_listed c.args.listed (of_lines known (option_copied c.args.key) (block c.args.lines.now) (kept c.args.memo.now) z)))
    (first_some c.args.inside.now c.in-Some.change.now (sym c.first.ensures.value ∙ ap option_copied c.in-Some.is))

-- ---- an element

pub compare_inside-returns-then-first_stays : goal.compare_inside-returns-then-first_stays
compare_inside-returns-then-first_stays u c = λ known k.
    none_gone (walk_of [] c.args.out.now) _
    (inside_stays known (option_copied c.args.key) c.args.number (block c.args.inner.now) (kept c.args.memo.now) (chain (map changed c.args.inside.now))
    (sym c.first_stays.ensures ∙ c.if-first_stays.true))

pub compare_inside-returns-then-keeps : goal.compare_inside-returns-then-keeps
compare_inside-returns-then-keeps u c = λ known k.
    let out = c.compare_first.new.out in
    inside_keeps known (option_copied c.args.key) c.args.number (block c.args.inner.now) (kept c.args.memo.now) (chain (map changed c.args.inside.now))
    (not c.first_keeps-keeps.result)
    (map child_of c.compare_first.new.children.items) (map mark_of out.touched.items) (map mark_of out.restated.items) (walk_of [] c.args.out.now) (walk_of [] out)
    (sym c.first_keeps-keeps.ensures ∙ c.if-keeps.true)
    (c.in_ok-compare_first.ensures known k
    ∙ ap (λ z. further (walk_of z c.args.out.now) (as_listed (not c.first_keeps-keeps.result) (of_lines known (option_copied c.args.key) (block c.args.inner.now)
    (kept c.args.memo.now) (first_in (chain (map changed c.args.inside.now)))))) c.in_ok-children.ensures)
    refl refl refl refl

pub compare_inside-returns : goal.compare_inside-returns
compare_inside-returns u c = λ known k.
    let out = c.compare_first.new.out in
    inside_goes known (option_copied c.args.key) c.args.number (block c.args.inner.now) (kept c.args.memo.now) (chain (map changed c.args.inside.now))
    (map child_of c.compare_first.new.children.items) (map mark_of out.touched.items) (map mark_of out.restated.items) (walk_of [] c.args.out.now)
    (record { children = []; touched = map mark_of c.push.new.self.items; restated = map mark_of out.restated.items })
    (sym c.first_keeps-keeps.ensures ∙ c.if-keeps.false)
    (c.in_ok-compare_first.ensures known k
    ∙ ap (λ b. further (walk_of c.in_ok-children.children.items c.args.out.now) (as_listed (not b) (of_lines known (option_copied c.args.key) (block c.args.inner.now)
    (kept c.args.memo.now) (first_in (chain (map changed c.args.inside.now)))))) c.if-keeps.false
    ∙ ap (λ z. further (walk_of z c.args.out.now) (of_lines known (option_copied c.args.key) (block c.args.inner.now) (kept c.args.memo.now)
    (first_in (chain (map changed c.args.inside.now))))) c.in_ok-children.ensures)
    refl refl (ap (map mark_of) c.in_ok-push.ensures.items ∙ map-append mark_of out.touched.items _) refl

pub compare_kept-returns-then-same : goal.compare_kept-returns-then-same
compare_kept-returns-then-same u c = λ known k.
    let m = kept c.args.memo.now in
    kept_same known (option_copied c.args.key) c.args.same c.args.number
    (Element c.args.name.now (values (waiting c.args.attributes.now) (attributes_of m))) (block c.args.inner.now) (inside_of m)
    (chain (map changed c.args.inside.now)) (walk_of [] c.args.out.now) (walk_of [] c.compare_inside.new.out) c.if-same.true
    (rw c.inside_of.ensures at (c.in_ok-compare_inside.ensures known k))

pub compare_kept-returns : goal.compare_kept-returns
compare_kept-returns u c = λ known k.
    let m = kept c.args.memo.now in
    let all = waiting c.args.attributes.now in
    let out = c.compare_inside.new.out in
    let read : c.put_attributes.new.out.items ≡ values all (attributes_of m) =
    c.in_ok-put_attributes.ensures ∙ (ap (λ z. z ++ values all (map heard_of c.attributes_of.result.now)) c.new-values.ensures.items
    ∙ ap (values all) c.attributes_of.ensures) in
    kept_goes known (option_copied c.args.key) c.args.same c.args.number (Element c.args.name.now (values all (attributes_of m))) (block c.args.inner.now) (inside_of m)
    (chain (map changed c.args.inside.now)) (walk_of [] c.args.out.now) (walk_of [] out)
    (record { children = []; touched = map mark_of out.touched.items; restated = map mark_of c.push.new.self.items })
    c.if-same.false (rw c.inside_of.ensures at (c.in_ok-compare_inside.ensures known k)) refl refl
    (ap (map mark_of) c.in_ok-push.ensures.items
    ∙ (map-append mark_of out.restated.items _
    ∙ (λ i. map mark_of out.restated.items
    ++ record { number = c.args.number; look = Element (c.in_ok-name.ensures i) (read i); children = map child_of (c.new.ensures.items i) } ∷ [])))

pub compare_element-returns-then-is_quiet : goal.compare_element-returns-then-is_quiet
compare_element-returns-then-is_quiet u c = λ known k.
    let key = option_copied c.args.key in
    let m = kept c.args.memo.now in
    none_gone (walk_of c.args.children.now.items c.args.out.now) _
    (element_quiet c.args.listed c.args.same known key (address c.args.line key) (Element c.args.name.now (values (waiting c.args.attributes.now) (attributes_of m)))
    (block c.args.inner.now) (inside_of m) (chain (map changed c.args.inside.now)) (sym c.is_quiet.ensures ∙ c.if-is_quiet.true))

pub compare_element-returns-in_default : goal.compare_element-returns-in_default
compare_element-returns-in_default u c = λ known k.
    let key = option_copied c.args.key in
    let m = kept c.args.memo.now in
    put_staying_gone (map child_of c.args.children.now.items) (map child_of c.put_kept.new.children.items) (walk_of c.args.children.now.items c.args.out.now) _
    (alone_listed c.args.listed _ _ (unknown_element known key c.args.same (address c.args.line key) (Element c.args.name.now (values (waiting c.args.attributes.now) (attributes_of m)))
    (block c.args.inner.now) (inside_of m) (chain (map changed c.args.inside.now)) (sym (c.in_ok-number.ensures.number known k) ∙ c.in_default.is))) refl
    (c.in_ok-number.ensures.child known k)

pub compare_element-returns : goal.compare_element-returns
compare_element-returns u c = λ known k.
    let key = option_copied c.args.key in
    let m = kept c.args.memo.now in
    element_goes c.args.listed known key c.args.same (address c.args.line key) c.in-Some.number (Element c.args.name.now (values (waiting c.args.attributes.now) (attributes_of m)))
    (block c.args.inner.now) (inside_of m) (chain (map changed c.args.inside.now)) (map child_of c.args.children.now.items) (map child_of c.put_kept.new.children.items)
    (walk_of [] c.args.out.now) (walk_of [] c.compare_kept.new.out) (sym (c.in_ok-number.ensures.number known k) ∙ c.in-Some.is)
    (c.in_ok-number.ensures.child known k) (c.in_ok-compare_kept.ensures known k)

-- ---- a branch

pub compare_branch-returns-then-not-shows : goal.compare_branch-returns-then-not-shows
compare_branch-returns-then-not-shows u c = λ known k.
    branch_off c.args.listed (shows (kept c.args.memo.now) c.args.first) _ (walk_of c.args.children.now.items c.args.out.now) (sym c.shows.ensures ∙ c.if-not-shows.true)

pub compare_branch-returns : goal.compare_branch-returns
compare_branch-returns u c = λ known k.
    branch_on c.args.listed (shows (kept c.args.memo.now) c.args.first)
    (of_lines known (option_copied c.args.key) (block c.args.lines.now) (inside_of (kept c.args.memo.now)) (first_in (chain (map changed c.args.inside.now))))
    (walk_of c.args.children.now.items c.args.out.now)
    (walk_of c.compare_first.new.children.items c.compare_first.new.out) (sym c.shows.ensures ∙ c.if-not-shows.false)
    (rw c.inside_of.ensures at (c.in_ok-compare_first.ensures known k))

-- ---- rows

pub compare_row-returns-in_default : goal.compare_row-returns-in_default
compare_row-returns-in_default u c = λ known k.
    put_staying_gone (map child_of c.args.children.now.items) (map child_of c.put_if_listed.new.children.items) (walk_of c.args.children.now.items c.args.out.now) _
    (alone_listed c.args.listed _ _ (stays_gone known (Some c.args.key.now) (block c.args.inner.now) (kept c.args.memo.now))) refl
    (c.in_ok-put_if_listed.ensures known k)
    ∙ ap (λ z. further (walk_of c.args.children.now.items c.args.out.now) (as_listed c.args.listed (of_lines known (Some c.args.key.now) (block c.args.inner.now)
    (kept c.args.memo.now) (or_stays (option_copied z))))) (sym c.in_default.is)

pub compare_row-returns-then-is_stays : goal.compare_row-returns-then-is_stays
compare_row-returns-then-is_stays u c = λ known k.
    let w = walk_of c.args.children.now.items c.args.out.now in
    let key = Some c.args.key.now in
    let m = kept c.args.memo.now in
    put_staying_gone (map child_of c.args.children.now.items) (map child_of c.put_if_listed-then-is_stays.new.children.items) w _
    (alone_listed c.args.listed _ _ (stays_gone known key (block c.args.inner.now) m)) refl (c.in_ok-put_if_listed-2.ensures known k)
    ∙ (ap (λ z. further w (as_listed c.args.listed (of_lines known key (block c.args.inner.now) m z)))
    (sym (stays_alone (changed c.in-Some.change.now) (sym c.is_stays.ensures ∙ c.if-is_stays.true)))
    ∙ ap (λ z. further w (as_listed c.args.listed (of_lines known key (block c.args.inner.now) m (or_stays (option_copied z))))) (sym c.in-Some.is))

pub compare_row-returns : goal.compare_row-returns
compare_row-returns u c = λ known k.
    c.in_ok-compare_lines.ensures known k
    ∙ ap (λ z. further (walk_of c.args.children.now.items c.args.out.now) (as_listed c.args.listed (of_lines known (Some c.args.key.now) (block c.args.inner.now)
    (kept c.args.memo.now) (or_stays (option_copied z))))) (sym c.in-Some.is)

pub compare_rows-loop-place-init : goal.compare_rows-loop-place-init
compare_rows-loop-place-init u c =
    all_left c.args.listed (number_on c.args.page.now) (block c.args.inner.now) c.args.rows.now (map kept c.args.memos.now) c.args.inside.now
    (walk_of c.args.children.now.items c.args.out.now)

pub compare_rows-loop-place-preserved : goal.compare_rows-loop-place-preserved
compare_rows-loop-place-preserved u c =
    let n = c.loop-place.place in
    let rows = c.args.rows.now in
    let memos = c.args.memos.now in
    let inside = c.args.inside.now in
    let there : n < length rows = grind (arith, nat_tests, c.in-Some.ensures.lookup.0) in
    let m = kept c.index-memos-place.result in
    let d = option_copied c.get-change.result in
    one_left c.args.listed (number_on c.args.page.now) (block c.args.inner.now) c.in-Some.row.now m d (drop n rows) (drop (n + 1) rows) (map kept (drop n memos))
    (map kept (drop (n + 1) memos)) (drop n inside) (drop (n + 1) inside) rows (map kept memos) inside (walk_of c.loop-place.children.items c.loop-place.out)
    (walk_of c.compare_row.new.children.items c.compare_row.new.out) (walk_of c.args.children.now.items c.args.out.now)
    (left_of rows n c.in-Some.row.now there c.in-Some.ensures.lookup.1)
    (ap (map kept) (left_of memos n c.index-memos-place.result c.loop-place-test.true c.index-memos-place.is))
    (told_at inside n d (item_at inside n c.get-change.result c.get-change.ensures.lookup.0 c.get-change.ensures.lookup.1)) c.in_ok-compare_row.ensures c.loop-place.invariant

pub compare_rows-returns-in_default : goal.compare_rows-returns-in_default
compare_rows-returns-in_default u c =
    let n = c.loop-place.place in
    rows_gone c.args.listed (number_on c.args.page.now) (block c.args.inner.now) (drop n c.args.rows.now) (map kept (drop n c.args.memos.now)) (drop n c.args.inside.now)
    c.args.rows.now (map kept c.args.memos.now) c.args.inside.now (walk_of c.loop-place.children.items c.loop-place.out)
    (walk_of c.args.children.now.items c.args.out.now) (inl (past c.args.rows.now n (grind (arith, nat_tests, c.in_default.ensures.lookup.0)))) c.loop-place.invariant

pub compare_rows-returns : goal.compare_rows-returns
compare_rows-returns u c =
    let n = c.loop-place.place in
    rows_gone c.args.listed (number_on c.args.page.now) (block c.args.inner.now) (drop n c.args.rows.now) (map kept (drop n c.args.memos.now)) (drop n c.args.inside.now)
    c.args.rows.now (map kept c.args.memos.now) c.args.inside.now (walk_of c.loop-place.children.items c.loop-place.out)
    (walk_of c.args.children.now.items c.args.out.now) (inr (ap (map kept) (past c.args.memos.now n (omega arith)))) c.loop-place.invariant

-- ---- the first of some lines

pub compare_part-returns-in-Empty : goal.compare_part-returns-in-Empty
compare_part-returns-in-Empty u c = λ fit known k. rw c.in-Empty.is (none_listed c.args.listed _ _ refl)

pub compare_part-returns-in_ok-put_text_again-in-Text : goal.compare_part-returns-in_ok-put_text_again-in-Text
compare_part-returns-in_ok-put_text_again-in-Text u c = λ fit known k.
    rw c.in-Text.is (c.in_ok-put_text_again-in-Text.ensures (rw c.in-Text.is at fit) known k)

pub compare_part-returns-in_ok-compare_element-in-Tag : goal.compare_part-returns-in_ok-compare_element-in-Tag
compare_part-returns-in_ok-compare_element-in-Tag u c = λ fit known k.
    rw c.in-Tag.is (rw (c.deref.ensures.value, c.deref-in-Tag.ensures) at (c.in_ok-compare_element-in-Tag.ensures known k))

pub compare_part-returns-in_ok-compare_branch-in-Choice-2 : goal.compare_part-returns-in_ok-compare_branch-in-Choice-2
compare_part-returns-in_ok-compare_branch-in-Choice-2 u c = λ fit known k.
    let key = option_copied c.args.key in
    let m = kept c.args.memo.now in
    let inside = first_in (chain (map changed c.args.inside.now)) in
    let one = where_gone (shows m true) (of_lines known key (block c.in-Choice.one.value) (inside_of m) inside) in
    let other = where_gone (shows m false) (of_lines known key (block c.in-Choice.other.value) (inside_of m) inside) in
    rw c.in-Choice.is
    (parts_gone c.args.listed (walk_of c.args.children.now.items c.args.out.now) (walk_of c.compare_branch.new.children.items c.compare_branch.new.out)
    (walk_of c.compare_branch-in-Choice.new.children.items c.compare_branch-in-Choice.new.out) one other (further one other) refl
    (rw c.deref-in-Choice.ensures at (c.in_ok-compare_branch-in-Choice.ensures known k))
    (rw c.deref-in-Choice-2.ensures at (c.in_ok-compare_branch-in-Choice-2.ensures known k)))

pub compare_part-returns-in_ok-compare_rows-in-Each : goal.compare_part-returns-in_ok-compare_rows-in-Each
compare_part-returns-in_ok-compare_rows-in-Each u c = λ fit known k.
    let inner = block c.in-Each.inner.value in
    rw c.in-Each.is
    (rw c.deref-in-Each.ensures at (c.in_ok-compare_rows-in-Each.ensures known k (table_of (kept c.args.memo.now)) 0)
    ∙ ap (λ z. further (walk_of c.args.children.now.items c.args.out.now)
    (as_listed c.args.listed (of_rows known inner z (chain (map changed c.args.inside.now))))) c.loop_of.ensures)

pub compare_part-returns-in_ok-put_part-in-Attempt-2 : goal.compare_part-returns-in_ok-put_part-in-Attempt-2
compare_part-returns-in_ok-put_part-in-Attempt-2 u c = λ fit known k.
    let key = option_copied c.args.key in
    let m = kept c.args.memo.now in
    let one = where_gone (shows m true) (of_tried known c.args.same (nodes key (block c.in-Attempt.first.value) (inside_of m))) in
    let other = where_gone (shows m false) (of_tried known c.args.same (nodes key (block c.in-Attempt.second.value) (inside_of m))) in
    rw c.in-Attempt.is
    (parts_gone c.args.listed (walk_of c.args.children.now.items c.args.out.now) (walk_of c.put_part.new.children.items c.put_part.new.out)
    (walk_of c.put_part-in-Attempt.new.children.items c.put_part-in-Attempt.new.out) one other (further one other) refl
    (rw c.deref-in-Attempt.ensures at (c.in_ok-put_part-in-Attempt.ensures known k))
    (rw c.deref-in-Attempt-2.ensures at (c.in_ok-put_part-in-Attempt-2.ensures known k)))

-- ---- lines whose first was heard again

pub compare_parts-returns-then-not-fits : goal.compare_parts-returns-then-not-fits
compare_parts-returns-then-not-fits u c = λ known k.
    none_listed c.args.listed _ _
    (unfit_gone known (option_copied c.args.key) (block c.args.lines.now) (kept c.args.memo.now) (over c.args.same (chain (map changed c.args.inside.now)) (same_before c.args.more (changed c.args.later.now)))
    (sym c.fits.ensures ∙ c.if-not-fits.true))

pub compare_parts-returns-in_ok-compare_behind-in-Text : goal.compare_parts-returns-in_ok-compare_behind-in-Text
compare_parts-returns-in_ok-compare_behind-in-Text u c = λ known k.
    let fit = sym c.fits.ensures ∙ c.if-not-fits.false in
    first_gone c.args.listed known (option_copied c.args.key) c.args.same (block c.args.lines.now) (block c.in-Text.rest.value) (kept c.args.memo.now)
    (chain (map changed c.args.inside.now)) (same_before c.args.more (changed c.args.later.now)) (walk_of c.args.children.now.items c.args.out.now)
    (walk_of c.compare_part.new.children.items c.compare_part.new.out) (walk_of c.compare_behind.new.children.items c.compare_behind.new.out)
    fit (sym (ap (λ z. behind (block z)) c.in-Text.is)) (c.in_ok-compare_part.ensures fit known k)
    (rw (c.deref.ensures, c.later_of-behind.ensures) at (c.in_ok-compare_behind-in-Text.ensures known k))

pub compare_parts-returns-in_ok-compare_behind-in-Tag : goal.compare_parts-returns-in_ok-compare_behind-in-Tag
compare_parts-returns-in_ok-compare_behind-in-Tag u c = λ known k.
    let fit = sym c.fits.ensures ∙ c.if-not-fits.false in
    first_gone c.args.listed known (option_copied c.args.key) c.args.same (block c.args.lines.now) (block c.in-Tag.rest.value) (kept c.args.memo.now)
    (chain (map changed c.args.inside.now)) (same_before c.args.more (changed c.args.later.now)) (walk_of c.args.children.now.items c.args.out.now)
    (walk_of c.compare_part.new.children.items c.compare_part.new.out) (walk_of c.compare_behind-in-Tag.new.children.items c.compare_behind-in-Tag.new.out)
    fit (sym (ap (λ z. behind (block z)) c.in-Tag.is)) (c.in_ok-compare_part.ensures fit known k)
    (rw (c.deref-in-Tag.ensures, c.later_of-behind.ensures) at (c.in_ok-compare_behind-in-Tag.ensures known k))

pub compare_parts-returns-in_ok-compare_behind-in-Choice : goal.compare_parts-returns-in_ok-compare_behind-in-Choice
compare_parts-returns-in_ok-compare_behind-in-Choice u c = λ known k.
    let fit = sym c.fits.ensures ∙ c.if-not-fits.false in
    first_gone c.args.listed known (option_copied c.args.key) c.args.same (block c.args.lines.now) (block c.in-Choice.rest.value) (kept c.args.memo.now)
    (chain (map changed c.args.inside.now)) (same_before c.args.more (changed c.args.later.now)) (walk_of c.args.children.now.items c.args.out.now)
    (walk_of c.compare_part.new.children.items c.compare_part.new.out) (walk_of c.compare_behind-in-Choice.new.children.items c.compare_behind-in-Choice.new.out)
    fit (sym (ap (λ z. behind (block z)) c.in-Choice.is)) (c.in_ok-compare_part.ensures fit known k)
    (rw (c.deref-in-Choice.ensures, c.later_of-behind.ensures) at (c.in_ok-compare_behind-in-Choice.ensures known k))

pub compare_parts-returns-in_ok-compare_behind-in-Each : goal.compare_parts-returns-in_ok-compare_behind-in-Each
compare_parts-returns-in_ok-compare_behind-in-Each u c = λ known k.
    let fit = sym c.fits.ensures ∙ c.if-not-fits.false in
    first_gone c.args.listed known (option_copied c.args.key) c.args.same (block c.args.lines.now) (block c.in-Each.rest.value) (kept c.args.memo.now)
    (chain (map changed c.args.inside.now)) (same_before c.args.more (changed c.args.later.now)) (walk_of c.args.children.now.items c.args.out.now)
    (walk_of c.compare_part.new.children.items c.compare_part.new.out) (walk_of c.compare_behind-in-Each.new.children.items c.compare_behind-in-Each.new.out)
    fit (sym (ap (λ z. behind (block z)) c.in-Each.is)) (c.in_ok-compare_part.ensures fit known k)
    (rw (c.deref-in-Each.ensures, c.later_of-behind.ensures) at (c.in_ok-compare_behind-in-Each.ensures known k))

pub compare_parts-returns-in_ok-compare_behind-in-Attempt : goal.compare_parts-returns-in_ok-compare_behind-in-Attempt
compare_parts-returns-in_ok-compare_behind-in-Attempt u c = λ known k.
    let fit = sym c.fits.ensures ∙ c.if-not-fits.false in
    first_gone c.args.listed known (option_copied c.args.key) c.args.same (block c.args.lines.now) (block c.in-Attempt.rest.value) (kept c.args.memo.now)
    (chain (map changed c.args.inside.now)) (same_before c.args.more (changed c.args.later.now)) (walk_of c.args.children.now.items c.args.out.now)
    (walk_of c.compare_part.new.children.items c.compare_part.new.out) (walk_of c.compare_behind-in-Attempt.new.children.items c.compare_behind-in-Attempt.new.out)
    fit (sym (ap (λ z. behind (block z)) c.in-Attempt.is)) (c.in_ok-compare_part.ensures fit known k)
    (rw (c.deref-in-Attempt.ensures, c.later_of-behind.ensures) at (c.in_ok-compare_behind-in-Attempt.ensures known k))

pub compare_behind-returns-then-count-eq0 : goal.compare_behind-returns-then-count-eq0
compare_behind-returns-then-count-eq0 u c = λ known k.
    let none : c.args.count ≡ 0 = grind (arith, nat_tests, c.if-count-eq0.true) in
    c.in_ok-compare_lines.ensures known k
    ∙ ap (λ z. further (walk_of c.args.children.now.items c.args.out.now)
    (as_listed c.args.listed (of_lines known (option_copied c.args.key) (block c.args.lines.now) (kept c.args.memo.now) z)))
    (sym (ap (λ z. same_before z (changed c.args.later.now)) none ∙ none_before (changed c.args.later.now)))

pub compare_behind-returns : goal.compare_behind-returns
compare_behind-returns u c = λ known k.
    let some : 0 < c.args.count = grind (arith, nat_tests, c.if-count-eq0.false) in
    c.in_ok-compare_parts.ensures known k
    ∙ ap (λ z. further (walk_of c.args.children.now.items c.args.out.now)
    (as_listed c.args.listed (of_lines known (option_copied c.args.key) (block c.args.lines.now) (kept c.args.memo.now) z)))
    (one_less c.args.count (changed c.args.later.now) some)

-- ---- lines

pub compare_lines-returns-in_ok-put_if_listed-in-Stays : goal.compare_lines-returns-in_ok-put_if_listed-in-Stays
compare_lines-returns-in_ok-put_if_listed-in-Stays u c = λ known k.
    let key = option_copied c.args.key in
    put_staying_gone (map child_of c.args.children.now.items) (map child_of c.put_if_listed.new.children.items) (walk_of c.args.children.now.items c.args.out.now) _
    (alone_listed c.args.listed _ _ (stays_gone known key (block c.args.lines.now) (kept c.args.memo.now))) refl (c.in_ok-put_if_listed-in-Stays.ensures known k)
    ∙ ap (λ z. further (walk_of c.args.children.now.items c.args.out.now) (as_listed c.args.listed (of_lines known key (block c.args.lines.now) (kept c.args.memo.now) z)))
    (sym (ap changed c.in-Stays.is ∙ changed_stays))

pub compare_lines-returns-in_ok-put_made-in-Made : goal.compare_lines-returns-in_ok-put_made-in-Made
compare_lines-returns-in_ok-put_made-in-Made u c = λ known k.
    let key = option_copied c.args.key in
    c.in_ok-put_made-in-Made.ensures known k
    ∙ ap (λ z. further (walk_of c.args.children.now.items c.args.out.now) (as_listed c.args.listed z))
    (made_gone known key (block c.args.lines.now) (kept c.args.memo.now)
    ∙ ap (of_lines known key (block c.args.lines.now) (kept c.args.memo.now)) (sym (ap changed c.in-Made.is ∙ changed_made)))

pub compare_lines-returns-in_ok-compare_parts-in-Over : goal.compare_lines-returns-in_ok-compare_parts-in-Over
compare_lines-returns-in_ok-compare_parts-in-Over u c = λ known k.
    rw (c.deref.ensures.value, c.deref-in-Over.ensures) at (c.in_ok-compare_parts-in-Over.ensures known k)
    ∙ ap (λ z. further (walk_of c.args.children.now.items c.args.out.now)
    (as_listed c.args.listed (of_lines known (option_copied c.args.key) (block c.args.lines.now) (kept c.args.memo.now) z)))
    (ap (over c.in-Over.same (chain (map changed c.in-Over.inside.items))) (none_before (changed (box_value c.in-Over.later)))
    ∙ sym (ap changed c.in-Over.is ∙ changed_over c.in-Over.same c.in-Over.inside c.in-Over.later))

pub compare_lines-returns-in_ok-compare_parts-in-First : goal.compare_lines-returns-in_ok-compare_parts-in-First
compare_lines-returns-in_ok-compare_parts-in-First u c = λ known k.
    let inside = chain (map changed c.in-First.inside.items) in
    rw c.deref-in-First.ensures.value at (c.in_ok-compare_parts-in-First.ensures known k)
    ∙ ap (λ z. further (walk_of c.args.children.now.items c.args.out.now)
    (as_listed c.args.listed (of_lines known (option_copied c.args.key) (block c.args.lines.now) (kept c.args.memo.now) z)))
    (ap (over c.in-First.same inside) (none_before (changed c.stays-still.result) ∙ c.stays-still.ensures)
    ∙ sym (ap changed c.in-First.is ∙ changed_first c.in-First.same c.in-First.inside))

pub compare_lines-returns-in_ok-compare_parts-in-Same : goal.compare_lines-returns-in_ok-compare_parts-in-Same
compare_lines-returns-in_ok-compare_parts-in-Same u c = λ known k.
    rw c.deref-in-Same.ensures at (c.in_ok-compare_parts-in-Same.ensures known k)
    ∙ ap (λ z. further (walk_of c.args.children.now.items c.args.out.now)
    (as_listed c.args.listed (of_lines known (option_copied c.args.key) (block c.args.lines.now) (kept c.args.memo.now) z)))
    (sym (ap changed c.in-Same.is ∙ changed_same c.in-Same.more c.in-Same.later))
