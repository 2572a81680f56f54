use Rattle.std.proofs.Common.{true, sym, ap, ◌∙◌, arith}
use Rattle.std.specs.Prelude.{slice_set}
use Rattle.sig_computed.specs.Flags.{is_raised}
use Rattle.sig_computed.proofs.Flagged.{raised_others, raised_own, raised_past}
use Rattle.sig_computed.proofs.visited.raise.Goals as goal

pub returns-then-place-len-clause-own : goal.returns-then-place-len-clause-own
returns-then-place-len-clause-own c =
    ap (is_raised (slice_set c.args.flags.now.items c.flag_of-place.result true)) (sym c.flag_of-place.ensures) ∙ raised_own c.args.flags.now.items c.flag_of-place.result

pub returns-then-place-len-clause-others : goal.returns-then-place-len-clause-others
returns-then-place-len-clause-others c = λ place on. raised_others c.args.flags.now.items c.flag_of-place.result place on

pub returns-else-place-len-clause-own : goal.returns-else-place-len-clause-own
returns-else-place-len-clause-own c =
    sym (raised_past c.args.flags.now.items c.flag_of-place.result (omega arith) ∙ ap (is_raised c.args.flags.now.items) c.flag_of-place.ensures)
