use Rattle.std.proofs.Common.{arith, sym, ◌-◌, drop}
use Rattle.std.proofs.lemmas.List.{length-drop}
use Rattle.sig_words.proofs.Fronts.{blanks_more, blank_at}
use Rattle.sig_words.proofs.line.past_blanks.Goals as goal

pub loop-at-preserved : goal.loop-at-preserved
loop-at-preserved c =
    let v = c.loop-at.invariant in
    let a = c.loop-at-test.true in
    record {
      after = omega arith;
      within = omega arith;
      blanks = blanks_more (c.loop-at.at - c.args.from) _ (drop c.args.from c.args.line.now) (omega (arith, length-drop c.args.from c.args.line.now)) v.blanks (blank_at c.args.line.now c.args.from c.loop-at.at v.after (sym c.if-is_blank.ensures)) (omega arith);
    }
