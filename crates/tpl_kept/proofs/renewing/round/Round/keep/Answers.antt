use Rattle.tpl_model.specs.KeptLines.Kept.{kept}
use Rattle.tpl_kept.proofs.Renewals.Rounds.{some_done, some_left}
use Rattle.tpl_kept.proofs.renewing.round.Round.keep.Goals as goal

pub returns-clause-later : goal.returns-clause-later
returns-clause-later c = some_left kept c.args.self.now.memos.items c.args.self.now.at c.args.count

pub returns-clause-done : goal.returns-clause-done
returns-clause-done c = some_done kept c.args.self.now.memos.items c.args.self.now.at c.args.count
