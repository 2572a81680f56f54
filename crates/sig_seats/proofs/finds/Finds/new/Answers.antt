use Rattle.sig_seats.proofs.NotedFinds.{none_found}
use Rattle.sig_seats.proofs.finds.Finds.new.Goals as goal

pub returns : goal.returns
returns c = λ n. none_found _ n c.in_ok-at.ensures.items
