use Rattle.std.proofs.Common.{false, if◌then◌else◌, length, ap, ◌∙◌}
use Rattle.sig_marks.specs.Tables.{MarkTable, marked_at, with_mark}
use Rattle.sig_marks.proofs.Shared.{mark_set_len}
use Rattle.sig_graph.proofs.KeptMarks.{end_goes, end_stays}
use Rattle.sig_graph.proofs.end_marks.end_mark.Goals as goal

pub returns-then-not-unmarks-clause-marks : goal.returns-then-not-unmarks-clause-marks
returns-then-not-unmarks-clause-marks c = λ m. end_stays c.args.marks.now.marked c.args.id c.args.unmarks m c.if-not-unmarks.true

pub returns-clause-marks : goal.returns-clause-marks
returns-clause-marks c =
    let t = c.args.marks.now in
    let took = c.unmark.ensures ∙ ap (λ b. if b then with_mark t c.args.id false else t) c.requires.stands in
    λ m. ap (λ (u : MarkTable). marked_at u.marked m) took ∙ end_goes t.marked c.args.id c.args.unmarks m c.requires.place c.if-not-unmarks.false

pub returns-clause-size : goal.returns-clause-size
returns-clause-size c =
    let t = c.args.marks.now in
    let took = c.unmark.ensures ∙ ap (λ b. if b then with_mark t c.args.id false else t) c.requires.stands in
    ap (λ (u : MarkTable). length u.marked) took ∙ mark_set_len t.marked c.args.id false

pub returns-clause-dependants : goal.returns-clause-dependants
returns-clause-dependants c =
    let t = c.args.marks.now in
    let took = c.unmark.ensures ∙ ap (λ b. if b then with_mark t c.args.id false else t) c.requires.stands in
    ap (λ (u : MarkTable). u.dependants) took

pub returns-clause-stands : goal.returns-clause-stands
returns-clause-stands c =
    let t = c.args.marks.now in
    let took = c.unmark.ensures ∙ ap (λ b. if b then with_mark t c.args.id false else t) c.requires.stands in
    ap (λ (u : MarkTable). u.stands) took
