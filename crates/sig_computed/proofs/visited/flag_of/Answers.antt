use Rattle.std.proofs.Common.{ap}
use Rattle.std.specs.Prelude.{◌%◌}
use Rattle.sig_computed.specs.Flags.{flag_of}
use Rattle.sig_computed.proofs.visited.flag_of.Goals as goal

pub returns : goal.returns
unfolding flag_of
returns c = ap (λ n. n % 4096) c.number.ensures
