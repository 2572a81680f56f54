use Rattle.effect_teardown.proofs.Splits.{child_body}
use Rattle.effect_teardown.proofs.laws.child_law.Goals as goal

pub returns : goal.returns
returns c = child_body
