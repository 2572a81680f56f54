use Rattle.std.proofs.Common.{◌≡◌, length, arith}
use Rattle.tpl_model.specs.KeptLines.Kept.{kept}
use Rattle.tpl_kept.proofs.Made.Memos.{none_read, one_read}
use Rattle.tpl_kept.proofs.making.head.last_read.Goals as goal

pub returns-in-None : goal.returns-in-None
returns-in-None c =
    let none = c.in-None.ensures.cases.0 in
    let e : length c.args.memos.items ≡ 0 = omega (arith, none) in
    none_read c.args.memos.items (kept c.unread.result) e c.unread.ensures

pub returns : goal.returns
returns c = one_read c.args.memos.items c.pop.new.self.items c.in-Some.memo c.in-Some.ensures.items
