use Rattle.effect_tables.proofs.Blocks.{take_set}
use Rattle.effect_tables.proofs.quiet_places.first_unset_in.Goals as goal

pub returns-clause-passed : goal.returns-clause-passed
returns-clause-passed c = λ p low high. take_set c.min.result p c.args.marks.now (c.first_unset.ensures.passed p low high)
