use Rattle.std.proofs.Common.{sym}
use Rattle.live_items.proofs.commands.get.Goals as goal

pub returns : goal.returns
returns g c = record { did = λ slacks count. rw (sym c.in_ok-told-2.ensures) at c.in_ok-told.ensures.did slacks count }
