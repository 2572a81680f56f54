use Rattle.effect_tables.proofs.Marks.{joined_passes}
use Rattle.effect_tables.proofs.quiet_places.first_unset.Goals as goal

pub returns-clause-passed : goal.returns-clause-passed
returns-clause-passed c =
    joined_passes c.args.from c.past_eights-near.result c.past_ones.result c.args.marks.now c.past_eights-near.ensures.passed c.past_ones.ensures.passed
