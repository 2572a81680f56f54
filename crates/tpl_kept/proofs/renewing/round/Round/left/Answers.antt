use Rattle.std.proofs.Common.{◌≤◌, length, arith}
use Rattle.tpl_model.specs.KeptLines.Kept.{kept}
use Rattle.tpl_kept.proofs.Renewals.Rounds.{none_left}
use Rattle.tpl_kept.proofs.renewing.round.Round.left.Goals as goal

pub returns-then-self-len : goal.returns-then-self-len
returns-then-self-len c =
    let past = c.if-self-len.true in
    let le : length c.args.self.now.memos.items ≤ c.args.self.now.at = omega (arith, past) in
    none_left kept c.args.self.now.memos.items c.args.self.now.at le
