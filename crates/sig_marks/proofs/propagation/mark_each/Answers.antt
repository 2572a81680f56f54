use Rattle.std.proofs.Common.{length, sym, ◌∙◌, arith}
use Rattle.sig_marks.specs.Sets.{marks_of}
use Rattle.sig_marks.proofs.LinkedSets.{alike_len}
use Rattle.sig_marks.proofs.PushedMarks.{here_within, onward, onward_new, rest_within}
use Rattle.sig_marks.proofs.propagation.mark_each.Goals as goal

pub mark_reader-requires-clause-within : goal.mark_reader-requires-clause-within
mark_reader-requires-clause-within c = here_within c.args.readers.now c.loop-reader.reader-index (length c.loop-reader.marked.entries) c.loop-reader-test.true c.loop-reader.invariant.within

pub loop-reader-preserved : goal.loop-reader-preserved
loop-reader-preserved c =
    let rs = c.args.readers.now in
    let i = c.loop-reader.reader-index in
    let before = c.loop-reader.marked.entries in
    let after = c.mark_reader.new.marked.entries in
    let inv = c.loop-reader.invariant in
    let step = c.mark_reader.ensures in
    let cap = step.capacity in
    let cap0 = inv.capacity in
    let fewer = step.fewer in
    let fewer0 = inv.fewer in
    record {
      marked = onward rs i (marks_of before) (marks_of after) c.loop-reader-test.true step.marked ∙ inv.marked;
      stands = step.stands ∙ inv.stands;
      fresh = onward_new rs i (marks_of before) (marks_of after) c.loop-reader.fresh.items c.mark_reader.new.fresh.items c.loop-reader-test.true step.marked step.fresh ∙ inv.fresh;
      within = rest_within rs i (length before) (length after) c.loop-reader-test.true (alike_len before after (sym step.stands)) inv.within;
      room = step.room;
      capacity = omega (arith, cap, cap0);
      work = step.work ∙ inv.work;
      fewer = omega (arith, fewer, fewer0);
    }
