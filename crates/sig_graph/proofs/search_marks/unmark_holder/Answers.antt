use Rattle.std.proofs.Common.{◌==◌, false, if◌then◌else◌, length, sym, ap, ◌∙◌}
use Rattle.sig_marks.specs.Tables.{MarkTable, marked_at, with_mark}
use Rattle.sig_marks.proofs.Shared.{mark_set, mark_set_len}
use Rattle.sig_graph.specs.Search.{of_holder}
use Rattle.sig_graph.proofs.search_marks.unmark_holder.Goals as goal

pub returns-in-Some-clause-marks : goal.returns-in-Some-clause-marks
returns-in-Some-clause-marks c =
    let t = c.args.marks.now in
    let id = c.in-Some.id in
    let has = c.in-Some.ensures in
    let took = c.unmark.ensures ∙ ap (λ b. if b then with_mark t id false else t) (c.requires.stands id (sym has)) in
    λ n.
    ap (λ (u : MarkTable). marked_at u.marked n) took
    ∙ mark_set t.marked id n false (c.requires.places id (sym has))
    ∙ (λ i. if of_holder (λ m. m == n) (has i) then false else marked_at t.marked n)

pub returns-in-Some-clause-size : goal.returns-in-Some-clause-size
returns-in-Some-clause-size c =
    let t = c.args.marks.now in
    let id = c.in-Some.id in
    let took = c.unmark.ensures ∙ ap (λ b. if b then with_mark t id false else t) (c.requires.stands id (sym c.in-Some.ensures)) in
    ap (λ (u : MarkTable). length u.marked) took ∙ mark_set_len t.marked id false

pub returns-in-Some-clause-dependants : goal.returns-in-Some-clause-dependants
returns-in-Some-clause-dependants c =
    let t = c.args.marks.now in
    let id = c.in-Some.id in
    let took = c.unmark.ensures ∙ ap (λ b. if b then with_mark t id false else t) (c.requires.stands id (sym c.in-Some.ensures)) in
    ap (λ (u : MarkTable). u.dependants) took

pub returns-in-Some-clause-stands : goal.returns-in-Some-clause-stands
returns-in-Some-clause-stands c =
    let t = c.args.marks.now in
    let id = c.in-Some.id in
    let took = c.unmark.ensures ∙ ap (λ b. if b then with_mark t id false else t) (c.requires.stands id (sym c.in-Some.ensures)) in
    ap (λ (u : MarkTable). u.stands) took
