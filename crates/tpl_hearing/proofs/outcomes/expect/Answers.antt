use Rattle.std.proofs.Common.{slice_get, ap, arith, ◌∙◌}
use Rattle.tpl_hearing.proofs.Paired.{next_paired, put_paired}
use Rattle.tpl_hearing.proofs.outcomes.expect.Goals as goal

pub returns-then-is_at-clause-pairs : goal.returns-then-is_at-clause-pairs
returns-then-is_at-clause-pairs c = λ os o long.
    next_paired c.args.names.now os c.args.id o (ap (slice_get c.args.names.now) long ∙ c.is_at.ensures c.if-is_at.true)

pub returns-clause-pairs : goal.returns-clause-pairs
returns-clause-pairs c = λ os o long.
    let within = c.requires.within in
    put_paired c.args.names.now c.put.new.self os c.args.id c.args.count o (omega (arith, long, within)) long c.in_ok-put.ensures.put
