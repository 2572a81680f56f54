use Rattle.std.proofs.Common.{◌∙◌, ◌+◌, ap, arith, drop, false, subst, sym, true}
use Rattle.std.specs.Prelude.{◌||◌}
use Rattle.std.specs.Option.{option_copied}
use Rattle.sig_formula.specs.Trees.{tree}
use Rattle.tpl_blocks.specs.Blocks.{block}
use Rattle.tpl_model.specs.Shapes.{attributes_told, row_here, shown_block, then_shown}
use Rattle.tpl_model.specs.Sources.{on_known}
use Rattle.tpl_scratch.specs.Pages.{attempt_shown, attributes_in, beside, element_shown, no_children, nodes_of, rows_shown, text_shown, Shows}
use Rattle.tpl_scratch.proofs.Parts.{attributes_stop, choice_shown, choice_shows, each_shows, element_shows, attempt_shows, first_stops, handed_on, in_any, lines_stop, rest_stops}
use Rattle.tpl_scratch.proofs.Parts.{loop_shown, nothing_shows, rows_done, rows_ended, rows_on, rows_read_stop, rows_stop, instead_stops, second_stops, test_stops}
use Rattle.tpl_scratch.proofs.Parts.{then_ended, then_shows, then_stops, all_rows_left, tried_stops, RowsLeft}
use Rattle.tpl_scratch.proofs.show.+showing.Goals as goal

-- ---- behind other lines

pub show_behind-returns-then-is_over-clause-shows : goal.show_behind-returns-then-is_over-clause-shows
show_behind-returns-then-is_over-clause-shows u c x before s =
    then_ended c.args.known.now c.args.ends x (shown_block (on_known c.args.known.now) c.args.ends (option_copied c.args.here) (block c.args.rest.now)) before (nodes_of c.args.out.now) c.args.failed s (sym c.is_over.ensures ∙ c.if-is_over.true)

pub show_behind-returns-clause-shows : goal.show_behind-returns-clause-shows
show_behind-returns-clause-shows u c x before s =
    subst (λ z. Shows c.args.known.now c.args.ends (then_shown c.args.ends x (shown_block (on_known c.args.known.now) c.args.ends (option_copied c.args.here) (block c.args.rest.now))) before (nodes_of c.show.new.out) z) (sym c.either_failed.ensures)
    (then_shows c.args.known.now c.args.ends x (shown_block (on_known c.args.known.now) c.args.ends (option_copied c.args.here) (block c.args.rest.now)) before (nodes_of c.args.out.now) (nodes_of c.show.new.out) c.args.failed c.in_ok-later.later s c.in_ok-later.ensures.shows)

pub show_behind-returns-in_err-later-clause-stops : goal.show_behind-returns-in_err-later-clause-stops
show_behind-returns-in_err-later-clause-stops u c =
    rest_stops c.args.known.now c.args.ends (shown_block (on_known c.args.known.now) c.args.ends (option_copied c.args.here) (block c.args.rest.now)) (nodes_of c.args.out.now) c.args.failed c.from_residual.result c.in_err-later.field-0.0 c.from_residual.ensures.1
    (sym c.is_over.ensures ∙ c.if-is_over.false) c.in_err-later.ensures.stops

-- ---- an element

pub show_element-returns-clause-shows : goal.show_element-returns-clause-shows
show_element-returns-clause-shows u c =
    let told = attributes_told c.args.ends (on_known c.args.known.now) (row_here (option_copied c.args.here)) (attributes_in c.args.attributes.now) in
    let h = c.in_ok-found.ensures.found in
    let s = subst (λ z. Shows c.args.known.now c.args.ends told (no_children (nodes_of c.args.out.now)) z c.in_ok-found.found.failed) (sym c.in_ok-children.ensures) (h.told (no_children (nodes_of c.args.out.now))) in
    element_shows c.args.known.now c.args.ends (option_copied c.args.here) c.args.line c.args.name.now (attributes_in c.args.attributes.now) (block c.args.inner.now)
    c.in_ok-found.found (nodes_of c.args.out.now) (nodes_of c.put_named.new.out) (nodes_of c.show_behind.new.out) c.in_ok-failed.failed
    h (c.in_ok-failed.ensures.shows told (no_children (nodes_of c.args.out.now)) s) c.in_ok-put_named.ensures

pub show_element-returns-in_err-found-clause-stops : goal.show_element-returns-in_err-found-clause-stops
show_element-returns-in_err-found-clause-stops u c =
    handed_on c.args.known.now _ c.from_residual.result c.in_err-found.field-0.0 c.from_residual.ensures.1
    (attributes_stop c.args.known.now c.args.ends (option_copied c.args.here) c.args.line c.args.name.now (attributes_in c.args.attributes.now) (block c.args.inner.now)
    c.in_err-found.field-0.0 c.in_err-found.ensures.stops)

pub show_element-returns-in_err-failed-clause-stops : goal.show_element-returns-in_err-failed-clause-stops
show_element-returns-in_err-failed-clause-stops u c =
    let told = attributes_told c.args.ends (on_known c.args.known.now) (row_here (option_copied c.args.here)) (attributes_in c.args.attributes.now) in
    let h = c.in_ok-found.ensures.found in
    let s = subst (λ z. Shows c.args.known.now c.args.ends told (no_children (nodes_of c.args.out.now)) z c.in_ok-found.found.failed) (sym c.in_ok-children.ensures) (h.told (no_children (nodes_of c.args.out.now))) in
    handed_on c.args.known.now _ c.from_residual-in_err-failed.result c.in_err-failed.field-0.0 c.from_residual-in_err-failed.ensures.1
    (c.in_err-failed.ensures.stops told (no_children (nodes_of c.args.out.now)) s)

-- ---- a branch

pub show_where-returns-then-not-shown-clause-shows : goal.show_where-returns-then-not-shown-clause-shows
show_where-returns-then-not-shown-clause-shows u c = rw c.if-not-shown.true (nothing_shows c.args.known.now c.args.ends (nodes_of c.args.out.now))

pub show_where-returns-clause-shows : goal.show_where-returns-clause-shows
show_where-returns-clause-shows u c = rw c.if-not-shown.false c.in_ok-failed.ensures.shows

pub show_where-returns-in_err-failed-clause-stops : goal.show_where-returns-in_err-failed-clause-stops
show_where-returns-in_err-failed-clause-stops u c =
    rw c.if-not-shown.false
    (handed_on c.args.known.now (shown_block (on_known c.args.known.now) c.args.ends (option_copied c.args.here) (block c.args.lines.now)).reads
    c.from_residual.result c.in_err-failed.field-0.0 c.from_residual.ensures.1 c.in_err-failed.ensures.stops)

-- ---- what is tried

pub show_tried-returns-clause-shows : goal.show_tried-returns-clause-shows
show_tried-returns-clause-shows u c = rw c.beside-nodes.ensures at c.in_ok-ended.ensures.shows

-- ---- rows

pub show_rows-loop-place-init : goal.show_rows-loop-place-init
show_rows-loop-place-init u c = all_rows_left c.args.known.now c.args.ends (block c.args.inner.now) c.args.rows.now (nodes_of c.args.out.now)

pub show_rows-loop-place-preserved : goal.show_rows-loop-place-preserved
show_rows-loop-place-preserved u c =
    subst (RowsLeft c.args.known.now c.args.ends (block c.args.inner.now) c.args.rows.now (nodes_of c.args.out.now) (nodes_of c.show.new.out) (c.loop-place.place + 1) (drop (c.loop-place.place + 1) c.args.rows.now.rows)) (sym c.either_failed-failed.ensures)
    (rows_on c.args.known.now c.args.ends (block c.args.inner.now) c.args.rows.now (nodes_of c.args.out.now) (nodes_of c.loop-place.out) (nodes_of c.show.new.out)
    c.loop-place.place c.in_ok-here.here c.loop-place.failed c.in_ok-fault.fault c.loop-place.invariant c.in_ok-here.ensures.here c.in_ok-fault.ensures.shows
    (sym c.is_over.ensures ∙ c.if-is_over.false))

pub show_rows-returns-then-is_over-clause-shows : goal.show_rows-returns-then-is_over-clause-shows
show_rows-returns-then-is_over-clause-shows u c =
    rows_ended c.args.known.now c.args.ends (block c.args.inner.now) c.args.rows.now (nodes_of c.args.out.now) (nodes_of c.loop-place.out) (nodes_of c.show.new.out)
    c.loop-place.place c.in_ok-here.here c.loop-place.failed c.in_ok-fault.fault c.loop-place.invariant c.in_ok-here.ensures.here c.in_ok-fault.ensures.shows
    (sym c.is_over.ensures ∙ c.if-is_over.true)

pub show_rows-returns-clause-shows : goal.show_rows-returns-clause-shows
show_rows-returns-clause-shows u c =
    rows_done c.args.known.now c.args.ends (block c.args.inner.now) c.args.rows.now (nodes_of c.args.out.now) (nodes_of c.loop-place.out) c.loop-place.place c.loop-place.failed
    c.loop-place.invariant (omega arith)

pub show_rows-returns-in_err-fault-clause-stops : goal.show_rows-returns-in_err-fault-clause-stops
show_rows-returns-in_err-fault-clause-stops u c =
    handed_on c.args.known.now _ c.from_residual-in_err-fault.result c.in_err-fault.field-0.0 c.from_residual-in_err-fault.ensures.1
    (rows_stop c.args.known.now c.args.ends (block c.args.inner.now) c.args.rows.now (nodes_of c.args.out.now) (nodes_of c.loop-place.out) c.loop-place.place
    c.in_ok-here.here c.loop-place.failed c.in_err-fault.field-0.0 c.loop-place.invariant c.in_ok-here.ensures.here c.in_err-fault.ensures.stops)

pub show_each-returns-in_ok-failed-in-Some-clause-shows : goal.show_each-returns-in_ok-failed-in-Some-clause-shows
show_each-returns-in_ok-failed-in-Some-clause-shows u c = rw c.in-Some.is c.in_ok-failed-in-Some.ensures.shows

pub show_each-returns-in-None-clause-shows : goal.show_each-returns-in-None-clause-shows
show_each-returns-in-None-clause-shows u c = rw c.in-None.is (nothing_shows c.args.known.now c.args.ends (nodes_of c.args.out.now))

pub show_each-returns-in_err-failed-in-Some-clause-stops : goal.show_each-returns-in_err-failed-in-Some-clause-stops
show_each-returns-in_err-failed-in-Some-clause-stops u c =
    rw c.in-Some.is
    (handed_on c.args.known.now (rows_shown (on_known c.args.known.now) c.args.ends (block c.args.inner.now) c.in-Some.rows 0 c.in-Some.rows.rows).reads
    c.from_residual.result c.in_err-failed-in-Some.field-0.0 c.from_residual.ensures.1 c.in_err-failed-in-Some.ensures.stops)

-- ---- lines

pub show-returns-in-Empty-clause-shows : goal.show-returns-in-Empty-clause-shows
show-returns-in-Empty-clause-shows u c = rw c.in-Empty.is (nothing_shows c.args.known.now c.args.ends (nodes_of c.args.out.now))

pub show-returns-in_ok-all-in-Text-clause-shows : goal.show-returns-in_ok-all-in-Text-clause-shows
show-returns-in_ok-all-in-Text-clause-shows u c =
    let one = text_shown (on_known c.args.known.now) (option_copied c.args.here) c.in-Text.line (tree c.in-Text.formula) in
    let s = in_any c.args.known.now c.args.ends one (nodes_of c.args.out.now) (nodes_of c.show_text.new.out) c.in_ok-failed-in-Text.failed c.in_ok-failed-in-Text.ensures.shows in
    rw c.in-Text.is ((rw c.deref.ensures at c.in_ok-all-in-Text.ensures.shows) one (nodes_of c.args.out.now) s)

pub show-returns-in_err-failed-in-Text-clause-stops : goal.show-returns-in_err-failed-in-Text-clause-stops
show-returns-in_err-failed-in-Text-clause-stops u c =
    let one = text_shown (on_known c.args.known.now) (option_copied c.args.here) c.in-Text.line (tree c.in-Text.formula) in
    rw c.in-Text.is
    (handed_on c.args.known.now _ c.from_residual.result c.in_err-failed-in-Text.field-0.0 c.from_residual.ensures.1
    (then_stops c.args.known.now c.args.ends one (shown_block (on_known c.args.known.now) c.args.ends (option_copied c.args.here) (block c.in-Text.rest.value)) c.in_err-failed-in-Text.field-0.0 c.in_err-failed-in-Text.ensures.stops))

pub show-returns-in_err-all-in-Text-clause-stops : goal.show-returns-in_err-all-in-Text-clause-stops
show-returns-in_err-all-in-Text-clause-stops u c =
    let one = text_shown (on_known c.args.known.now) (option_copied c.args.here) c.in-Text.line (tree c.in-Text.formula) in
    let s = in_any c.args.known.now c.args.ends one (nodes_of c.args.out.now) (nodes_of c.show_text.new.out) c.in_ok-failed-in-Text.failed c.in_ok-failed-in-Text.ensures.shows in
    rw c.in-Text.is
    (handed_on c.args.known.now _ c.from_residual-in_err-all-in-Text.result c.in_err-all-in-Text.field-0.0 c.from_residual-in_err-all-in-Text.ensures.1
    ((rw c.deref.ensures at c.in_err-all-in-Text.ensures.stops) one (nodes_of c.args.out.now) s))

pub show-returns-in_ok-all-in-Tag-clause-shows : goal.show-returns-in_ok-all-in-Tag-clause-shows
show-returns-in_ok-all-in-Tag-clause-shows u c =
    let one = element_shown (on_known c.args.known.now) c.args.ends (option_copied c.args.here) c.in-Tag.line c.in-Tag.name (attributes_in c.in-Tag.attributes.items) (block c.in-Tag.inner.value) in
    let s = rw (c.deref-in-Tag.ensures.value, c.deref-in-Tag-2.ensures) at c.in_ok-failed-in-Tag.ensures.shows in
    rw c.in-Tag.is ((rw c.deref-in-Tag-3.ensures at c.in_ok-all-in-Tag.ensures.shows) one (nodes_of c.args.out.now) s)

pub show-returns-in_err-failed-in-Tag-clause-stops : goal.show-returns-in_err-failed-in-Tag-clause-stops
show-returns-in_err-failed-in-Tag-clause-stops u c =
    let one = element_shown (on_known c.args.known.now) c.args.ends (option_copied c.args.here) c.in-Tag.line c.in-Tag.name (attributes_in c.in-Tag.attributes.items) (block c.in-Tag.inner.value) in
    rw c.in-Tag.is
    (handed_on c.args.known.now _ c.from_residual-in_err-failed-in-Tag.result c.in_err-failed-in-Tag.field-0.0 c.from_residual-in_err-failed-in-Tag.ensures.1
    (then_stops c.args.known.now c.args.ends one (shown_block (on_known c.args.known.now) c.args.ends (option_copied c.args.here) (block c.in-Tag.rest.value)) c.in_err-failed-in-Tag.field-0.0
    (rw (c.deref-in-Tag.ensures.value, c.deref-in-Tag-2.ensures) at c.in_err-failed-in-Tag.ensures.stops)))

pub show-returns-in_err-all-in-Tag-clause-stops : goal.show-returns-in_err-all-in-Tag-clause-stops
show-returns-in_err-all-in-Tag-clause-stops u c =
    let one = element_shown (on_known c.args.known.now) c.args.ends (option_copied c.args.here) c.in-Tag.line c.in-Tag.name (attributes_in c.in-Tag.attributes.items) (block c.in-Tag.inner.value) in
    let s = rw (c.deref-in-Tag.ensures.value, c.deref-in-Tag-2.ensures) at c.in_ok-failed-in-Tag.ensures.shows in
    rw c.in-Tag.is
    (handed_on c.args.known.now _ c.from_residual-in_err-all-in-Tag.result c.in_err-all-in-Tag.field-0.0 c.from_residual-in_err-all-in-Tag.ensures.1
    ((rw c.deref-in-Tag-3.ensures at c.in_err-all-in-Tag.ensures.stops) one (nodes_of c.args.out.now) s))

pub show-returns-in_ok-all-in-Choice-clause-shows : goal.show-returns-in_ok-all-in-Choice-clause-shows
show-returns-in_ok-all-in-Choice-clause-shows u c =
    let s = choice_shows c.args.known.now c.args.ends (option_copied c.args.here) (tree c.in-Choice.test) (block c.in-Choice.one.value) (block c.in-Choice.other.value) c.in_ok-shown-in-Choice.shown (nodes_of c.args.out.now) (nodes_of c.show_where.new.out) (nodes_of c.show_where-in-Choice.new.out)
    c.in_ok-first-in-Choice.first c.in_ok-second-in-Choice.second c.either_failed-failed.result c.in_ok-shown-in-Choice.ensures.found
    (rw c.deref-in-Choice.ensures at c.in_ok-first-in-Choice.ensures.shows) (rw c.deref-in-Choice-2.ensures at c.in_ok-second-in-Choice.ensures.shows)
    (c.either_failed-failed.ensures ∙ ap (λ z. c.in_ok-shown-in-Choice.shown.failed || z) c.either_failed.ensures) in
    rw c.in-Choice.is ((rw c.deref-in-Choice-3.ensures at c.in_ok-all-in-Choice.ensures.shows) (choice_shown c.args.known.now c.args.ends (option_copied c.args.here) (tree c.in-Choice.test) (block c.in-Choice.one.value) (block c.in-Choice.other.value)) (nodes_of c.args.out.now) s)

pub show-returns-in_err-shown-in-Choice-clause-stops : goal.show-returns-in_err-shown-in-Choice-clause-stops
show-returns-in_err-shown-in-Choice-clause-stops u c =
    rw c.in-Choice.is
    (handed_on c.args.known.now _ c.from_residual-in_err-shown-in-Choice.result c.in_err-shown-in-Choice.field-0.0 c.from_residual-in_err-shown-in-Choice.ensures.1
    (test_stops c.args.known.now c.args.ends (option_copied c.args.here) (tree c.in-Choice.test) (block c.in-Choice.one.value) (block c.in-Choice.other.value) (block c.in-Choice.rest.value) c.in_err-shown-in-Choice.field-0.0 c.in_err-shown-in-Choice.ensures.stops))

pub show-returns-in_err-first-in-Choice-clause-stops : goal.show-returns-in_err-first-in-Choice-clause-stops
show-returns-in_err-first-in-Choice-clause-stops u c =
    rw c.in-Choice.is
    (handed_on c.args.known.now _ c.from_residual-in_err-first-in-Choice.result c.in_err-first-in-Choice.field-0.0 c.from_residual-in_err-first-in-Choice.ensures.1
    (first_stops c.args.known.now c.args.ends (option_copied c.args.here) (tree c.in-Choice.test) (block c.in-Choice.one.value) (block c.in-Choice.other.value) (block c.in-Choice.rest.value) c.in_ok-shown-in-Choice.shown c.in_err-first-in-Choice.field-0.0 c.in_ok-shown-in-Choice.ensures.found
    (rw c.deref-in-Choice.ensures at c.in_err-first-in-Choice.ensures.stops)))

pub show-returns-in_err-second-in-Choice-clause-stops : goal.show-returns-in_err-second-in-Choice-clause-stops
show-returns-in_err-second-in-Choice-clause-stops u c =
    rw c.in-Choice.is
    (handed_on c.args.known.now _ c.from_residual-in_err-second-in-Choice.result c.in_err-second-in-Choice.field-0.0 c.from_residual-in_err-second-in-Choice.ensures.1
    (second_stops c.args.known.now c.args.ends (option_copied c.args.here) (tree c.in-Choice.test) (block c.in-Choice.one.value) (block c.in-Choice.other.value) (block c.in-Choice.rest.value) c.in_ok-shown-in-Choice.shown c.in_err-second-in-Choice.field-0.0 c.in_ok-shown-in-Choice.ensures.found
    (rw c.deref-in-Choice-2.ensures at c.in_err-second-in-Choice.ensures.stops)))

pub show-returns-in_err-all-in-Choice-clause-stops : goal.show-returns-in_err-all-in-Choice-clause-stops
show-returns-in_err-all-in-Choice-clause-stops u c =
    let s = choice_shows c.args.known.now c.args.ends (option_copied c.args.here) (tree c.in-Choice.test) (block c.in-Choice.one.value) (block c.in-Choice.other.value) c.in_ok-shown-in-Choice.shown (nodes_of c.args.out.now) (nodes_of c.show_where.new.out) (nodes_of c.show_where-in-Choice.new.out)
    c.in_ok-first-in-Choice.first c.in_ok-second-in-Choice.second c.either_failed-failed.result c.in_ok-shown-in-Choice.ensures.found
    (rw c.deref-in-Choice.ensures at c.in_ok-first-in-Choice.ensures.shows) (rw c.deref-in-Choice-2.ensures at c.in_ok-second-in-Choice.ensures.shows)
    (c.either_failed-failed.ensures ∙ ap (λ z. c.in_ok-shown-in-Choice.shown.failed || z) c.either_failed.ensures) in
    rw c.in-Choice.is
    (handed_on c.args.known.now _ c.from_residual-in_err-all-in-Choice.result c.in_err-all-in-Choice.field-0.0 c.from_residual-in_err-all-in-Choice.ensures.1
    ((rw c.deref-in-Choice-3.ensures at c.in_err-all-in-Choice.ensures.stops) (choice_shown c.args.known.now c.args.ends (option_copied c.args.here) (tree c.in-Choice.test) (block c.in-Choice.one.value) (block c.in-Choice.other.value)) (nodes_of c.args.out.now) s))

pub show-returns-in_ok-all-in-Each-clause-shows : goal.show-returns-in_ok-all-in-Each-clause-shows
show-returns-in_ok-all-in-Each-clause-shows u c =
    let s = each_shows c.args.known.now c.args.ends (option_copied c.args.here) (tree c.in-Each.rows) (block c.in-Each.inner.value) c.in_ok-outcome-in-Each.outcome c.rows_in.result (nodes_of c.args.out.now) (nodes_of c.show_each.new.out)
    c.is_fault-fault.result c.in_ok-inside-in-Each.inside c.either_failed-failed-in-Each.result c.in_ok-outcome-in-Each.ensures.found c.rows_in.ensures c.is_fault-fault.ensures
    (rw c.deref-in-Each.ensures at c.in_ok-inside-in-Each.ensures.shows) c.either_failed-failed-in-Each.ensures in
    rw c.in-Each.is ((rw c.deref-in-Each-2.ensures at c.in_ok-all-in-Each.ensures.shows) (loop_shown c.args.known.now c.args.ends (option_copied c.args.here) (tree c.in-Each.rows) (block c.in-Each.inner.value)) (nodes_of c.args.out.now) s)

pub show-returns-in_err-outcome-in-Each-clause-stops : goal.show-returns-in_err-outcome-in-Each-clause-stops
show-returns-in_err-outcome-in-Each-clause-stops u c =
    rw c.in-Each.is
    (handed_on c.args.known.now _ c.from_residual-in_err-outcome-in-Each.result c.in_err-outcome-in-Each.field-0.0 c.from_residual-in_err-outcome-in-Each.ensures.1
    (rows_read_stop c.args.known.now c.args.ends (option_copied c.args.here) (tree c.in-Each.rows) (block c.in-Each.inner.value) (block c.in-Each.rest.value) c.in_err-outcome-in-Each.field-0.0 c.in_err-outcome-in-Each.ensures.stops))

pub show-returns-in_err-inside-in-Each-clause-stops : goal.show-returns-in_err-inside-in-Each-clause-stops
show-returns-in_err-inside-in-Each-clause-stops u c =
    rw c.in-Each.is
    (handed_on c.args.known.now _ c.from_residual-in_err-inside-in-Each.result c.in_err-inside-in-Each.field-0.0 c.from_residual-in_err-inside-in-Each.ensures.1
    (lines_stop c.args.known.now c.args.ends (option_copied c.args.here) (tree c.in-Each.rows) (block c.in-Each.inner.value) (block c.in-Each.rest.value) c.in_ok-outcome-in-Each.outcome c.rows_in.result
    c.in_err-inside-in-Each.field-0.0 c.in_ok-outcome-in-Each.ensures.found c.rows_in.ensures (rw c.deref-in-Each.ensures at c.in_err-inside-in-Each.ensures.stops)))

pub show-returns-in_err-all-in-Each-clause-stops : goal.show-returns-in_err-all-in-Each-clause-stops
show-returns-in_err-all-in-Each-clause-stops u c =
    let s = each_shows c.args.known.now c.args.ends (option_copied c.args.here) (tree c.in-Each.rows) (block c.in-Each.inner.value) c.in_ok-outcome-in-Each.outcome c.rows_in.result (nodes_of c.args.out.now) (nodes_of c.show_each.new.out)
    c.is_fault-fault.result c.in_ok-inside-in-Each.inside c.either_failed-failed-in-Each.result c.in_ok-outcome-in-Each.ensures.found c.rows_in.ensures c.is_fault-fault.ensures
    (rw c.deref-in-Each.ensures at c.in_ok-inside-in-Each.ensures.shows) c.either_failed-failed-in-Each.ensures in
    rw c.in-Each.is
    (handed_on c.args.known.now _ c.from_residual-in_err-all-in-Each.result c.in_err-all-in-Each.field-0.0 c.from_residual-in_err-all-in-Each.ensures.1
    ((rw c.deref-in-Each-2.ensures at c.in_err-all-in-Each.ensures.stops) (loop_shown c.args.known.now c.args.ends (option_copied c.args.here) (tree c.in-Each.rows) (block c.in-Each.inner.value)) (nodes_of c.args.out.now) s))

pub show-returns-in_ok-all-in-Attempt-clause-shows : goal.show-returns-in_ok-all-in-Attempt-clause-shows
show-returns-in_ok-all-in-Attempt-clause-shows u c =
    let one = attempt_shown (on_known c.args.known.now) c.args.ends (option_copied c.args.here) (block c.in-Attempt.first.value) (block c.in-Attempt.second.value) in
    let s = attempt_shows c.args.known.now c.args.ends (option_copied c.args.here) (shown_block (on_known c.args.known.now) true (option_copied c.args.here) (block c.in-Attempt.first.value)) (block c.in-Attempt.second.value) (nodes_of c.args.out.now) (nodes_of c.in_ok-tried-in-Attempt.tried.nodes) (nodes_of c.put_tried.new.out)
    (nodes_of c.show_where-in-Attempt.new.out) c.in_ok-tried-in-Attempt.tried.ended c.in_ok-failed-in-Attempt.failed
    (rw c.deref-in-Attempt.ensures at c.in_ok-tried-in-Attempt.ensures.shows) c.in_ok-put_tried-in-Attempt.ensures
    (rw c.deref-in-Attempt-2.ensures at c.in_ok-failed-in-Attempt.ensures.shows) in
    rw c.in-Attempt.is ((rw c.deref-in-Attempt-3.ensures at c.in_ok-all-in-Attempt.ensures.shows) one (nodes_of c.args.out.now) s)

pub show-returns-in_err-tried-in-Attempt-clause-stops : goal.show-returns-in_err-tried-in-Attempt-clause-stops
show-returns-in_err-tried-in-Attempt-clause-stops u c =
    let one = attempt_shown (on_known c.args.known.now) c.args.ends (option_copied c.args.here) (block c.in-Attempt.first.value) (block c.in-Attempt.second.value) in
    rw c.in-Attempt.is
    (handed_on c.args.known.now _ c.from_residual-in_err-tried-in-Attempt.result c.in_err-tried-in-Attempt.field-0.0 c.from_residual-in_err-tried-in-Attempt.ensures.1
    (then_stops c.args.known.now c.args.ends one (shown_block (on_known c.args.known.now) c.args.ends (option_copied c.args.here) (block c.in-Attempt.rest.value)) c.in_err-tried-in-Attempt.field-0.0
    (tried_stops c.args.known.now (shown_block (on_known c.args.known.now) true (option_copied c.args.here) (block c.in-Attempt.first.value)) (shown_block (on_known c.args.known.now) c.args.ends (option_copied c.args.here) (block c.in-Attempt.second.value)) c.in_err-tried-in-Attempt.field-0.0 (rw c.deref-in-Attempt.ensures at c.in_err-tried-in-Attempt.ensures.stops))))

pub show-returns-in_err-failed-in-Attempt-clause-stops : goal.show-returns-in_err-failed-in-Attempt-clause-stops
show-returns-in_err-failed-in-Attempt-clause-stops u c =
    let one = attempt_shown (on_known c.args.known.now) c.args.ends (option_copied c.args.here) (block c.in-Attempt.first.value) (block c.in-Attempt.second.value) in
    rw c.in-Attempt.is
    (handed_on c.args.known.now _ c.from_residual-in_err-failed-in-Attempt.result c.in_err-failed-in-Attempt.field-0.0 c.from_residual-in_err-failed-in-Attempt.ensures.1
    (then_stops c.args.known.now c.args.ends one (shown_block (on_known c.args.known.now) c.args.ends (option_copied c.args.here) (block c.in-Attempt.rest.value)) c.in_err-failed-in-Attempt.field-0.0
    (instead_stops c.args.known.now c.args.ends (option_copied c.args.here) (shown_block (on_known c.args.known.now) true (option_copied c.args.here) (block c.in-Attempt.first.value)) (block c.in-Attempt.second.value) (beside (nodes_of c.args.out.now)) (nodes_of c.in_ok-tried-in-Attempt.tried.nodes)
    c.in_ok-tried-in-Attempt.tried.ended c.in_err-failed-in-Attempt.field-0.0 (rw c.deref-in-Attempt.ensures at c.in_ok-tried-in-Attempt.ensures.shows)
    (rw c.deref-in-Attempt-2.ensures at c.in_err-failed-in-Attempt.ensures.stops))))

pub show-returns-in_err-all-in-Attempt-clause-stops : goal.show-returns-in_err-all-in-Attempt-clause-stops
show-returns-in_err-all-in-Attempt-clause-stops u c =
    let one = attempt_shown (on_known c.args.known.now) c.args.ends (option_copied c.args.here) (block c.in-Attempt.first.value) (block c.in-Attempt.second.value) in
    let s = attempt_shows c.args.known.now c.args.ends (option_copied c.args.here) (shown_block (on_known c.args.known.now) true (option_copied c.args.here) (block c.in-Attempt.first.value)) (block c.in-Attempt.second.value) (nodes_of c.args.out.now) (nodes_of c.in_ok-tried-in-Attempt.tried.nodes) (nodes_of c.put_tried.new.out)
    (nodes_of c.show_where-in-Attempt.new.out) c.in_ok-tried-in-Attempt.tried.ended c.in_ok-failed-in-Attempt.failed
    (rw c.deref-in-Attempt.ensures at c.in_ok-tried-in-Attempt.ensures.shows) c.in_ok-put_tried-in-Attempt.ensures
    (rw c.deref-in-Attempt-2.ensures at c.in_ok-failed-in-Attempt.ensures.shows) in
    rw c.in-Attempt.is
    (handed_on c.args.known.now _ c.from_residual-in_err-all-in-Attempt.result c.in_err-all-in-Attempt.field-0.0 c.from_residual-in_err-all-in-Attempt.ensures.1
    ((rw c.deref-in-Attempt-3.ensures at c.in_err-all-in-Attempt.ensures.stops) one (nodes_of c.args.out.now) s))
