use Rattle.std.proofs.Common.{ap, ◌∙◌, arith}
use Rattle.sig_computed.specs.Flags.{is_raised}
use Rattle.sig_computed.proofs.Flagged.{raised_at, raised_past}
use Rattle.sig_computed.proofs.visited.is_flagged.Goals as goal

pub returns-then-place-flags : goal.returns-then-place-flags
returns-then-place-flags c =
    raised_at c.args.flags.now c.flag_of-place.result (omega arith) ∙ ap (is_raised c.args.flags.now) c.flag_of-place.ensures

pub returns-else-place-flags : goal.returns-else-place-flags
returns-else-place-flags c =
    raised_past c.args.flags.now c.flag_of-place.result (omega arith) ∙ ap (is_raised c.args.flags.now) c.flag_of-place.ensures
