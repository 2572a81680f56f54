use Rattle.live_why.proofs.Marks.{right_new}
use Rattle.live_why.proofs.ledger.Ledger.new.Goals as goal

pub returns-clause-right : goal.returns-clause-right
returns-clause-right c = rw (c.new.ensures.items, c.new-2.ensures.items, c.new-3.ensures) right_new
