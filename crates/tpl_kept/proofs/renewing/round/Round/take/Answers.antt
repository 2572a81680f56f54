use Rattle.std.proofs.Common.{◌≤◌, length, arith}
use Rattle.tpl_model.specs.KeptLines.Kept.{kept}
use Rattle.tpl_model.specs.declared.memo.PageMemo.TheVariants.{Unread}
use Rattle.tpl_model.proofs.MemoEquations.{kept_unread}
use Rattle.tpl_kept.proofs.Renewals.Rounds.{none_first}
use Rattle.tpl_kept.proofs.renewing.round.Round.take.Goals as goal

pub returns-then-self-len-clause-first : goal.returns-then-self-len-clause-first
returns-then-self-len-clause-first c =
    let past = c.if-self-len.true in
    let le : length c.args.self.now.memos.items ≤ c.args.self.now.at = omega (arith, past) in
    none_first kept c.args.self.now.memos.items c.args.self.now.at (kept Unread) kept_unread le
