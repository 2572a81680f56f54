use Rattle.std.proofs.Common.{◌≡◌, Some, length, refl, slice_get, arith}
use Rattle.std.proofs.lemmas.Bool.Decides.{nat_tests}
use Rattle.std.proofs.lemmas.Option.{slice_get_read}
use Rattle.tpl_model.specs.KeptLines.Kept.{kept}
use Rattle.tpl_kept.proofs.Renewals.Nameless.{nameless_at, read_more}
use Rattle.tpl_kept.proofs.renewing.staying.count_front.Goals as goal

pub is_quiet-requires : goal.is_quiet-requires
is_quiet-requires c = λ silent u.
    let memos = c.args.memos.now in
    let n = c.loop-count.count in
    let there = c.in-Some.ensures.lookup.0 in
    let is : slice_get memos n ≡ Some c.in-Some.memo.now =
    slice_get_read memos (length memos) n c.in-Some.memo.now refl (grind (arith, nat_tests, there)) c.in-Some.ensures.lookup.1 in
    nameless_at kept c.args.most n c.in-Some.memo.now memos c.loop-count-test.true is (c.requires silent) u

pub loop-count-preserved : goal.loop-count-preserved
loop-count-preserved c =
    let memos = c.args.memos.now in
    let n = c.loop-count.count in
    let there = c.in-Some.ensures.lookup.0 in
    let is : slice_get memos n ≡ Some c.in-Some.memo.now =
    slice_get_read memos (length memos) n c.in-Some.memo.now refl (grind (arith, nat_tests, there)) c.in-Some.ensures.lookup.1 in
    read_more kept n c.in-Some.memo.now memos is (c.is_quiet.ensures c.if-not-is_quiet.false) c.loop-count.invariant
