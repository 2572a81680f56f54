use Rattle.std.proofs.Common.{ap}
use Rattle.std.specs.Prelude.{◌%◌}
use Rattle.sig_seats.specs.Found.{place_of}
use Rattle.sig_seats.proofs.finds.place_of.Goals as goal

pub returns-clause-place : goal.returns-clause-place
unfolding place_of
returns-clause-place c = ap (λ n. n % 16384) c.number.ensures
