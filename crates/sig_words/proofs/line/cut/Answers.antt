use Rattle.std.proofs.Common.{arith}
use Rattle.sig_words.proofs.Fronts.{cuts_more, stands}
use Rattle.sig_words.proofs.line.cut.Goals as goal

pub loop-at-preserved : goal.loop-at-preserved
loop-at-preserved c =
    let v = c.loop-at.invariant in
    let p = c.past_blanks-start.ensures in
    let e = c.in-Some.ensures in
    let s = c.split_at.ensures in
    record {
      within = omega (arith, e.within);
      cuts = rw c.in_ok-push.ensures.items (cuts_more c.args.line.now 0 c.loop-at.at c.loop-at.out.items _ v.cuts
          (stands c.args.line.now c.split_at.result.1.now c.loop-at.at c.past_blanks-start.result c.in-Some.len c.in-Some.kind c.may_sign.result p.after p.within p.blanks s.back c.may_sign.ensures e.within.0 e.within.1 e.token));
    }
