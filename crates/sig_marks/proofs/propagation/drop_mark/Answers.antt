use Rattle.std.proofs.Common.{None, sym, ap, ◌∙◌, arith}
use Rattle.sig_marks.specs.Sets.{marks_of, standing_count, stands_of}
use Rattle.sig_marks.proofs.LinkedSets.{count_less, stands_gap, stands_is, stands_set}
use Rattle.sig_marks.proofs.PushedMarks.{marks_gap, marks_set}
use Rattle.sig_marks.proofs.propagation.drop_mark.Goals as goal

pub returns-then-not-stands_in-clause-marked : goal.returns-then-not-stands_in-clause-marked
returns-then-not-stands_in-clause-marked c = marks_gap c.args.marked.now.entries c.args.id (sym c.stands_in.ensures ∙ c.if-not-stands_in.true)

pub returns-then-not-stands_in-clause-stands : goal.returns-then-not-stands_in-clause-stands
returns-then-not-stands_in-clause-stands c = stands_gap c.args.marked.now.entries c.args.id (sym c.stands_in.ensures ∙ c.if-not-stands_in.true)

pub overflow_sub-live : goal.overflow_sub-live
overflow_sub-live c =
    let ms = c.args.marked.now.entries in
    let less = count_less (stands_of ms) c.args.id (stands_is ms c.args.id ∙ sym c.stands_in.ensures ∙ c.if-not-stands_in.false) in
    let count = c.requires in
    omega (arith, less, count)

pub returns-clause-marked : goal.returns-clause-marked
returns-clause-marked c = ap marks_of c.remove-mark.ensures.entries ∙ marks_set c.args.marked.now.entries c.args.id None

pub returns-clause-stands : goal.returns-clause-stands
returns-clause-stands c = ap (λ ms. stands_of ms) c.remove-mark.ensures.entries ∙ stands_set c.args.marked.now.entries c.args.id None

pub returns-clause-count : goal.returns-clause-count
returns-clause-count c =
    let ms = c.args.marked.now.entries in
    let less = count_less (stands_of ms) c.args.id (stands_is ms c.args.id ∙ sym c.stands_in.ensures ∙ c.if-not-stands_in.false) in
    let count = c.requires in
    let now = ap (λ es. standing_count (stands_of es)) c.remove-mark.ensures.entries ∙ ap standing_count (stands_set ms c.args.id None) in
    omega (arith, less, count, now)
