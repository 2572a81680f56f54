use Rattle.effect_laws.proofs.Teardowns.{undo_all_split}
use Rattle.effect_laws.proofs.laws.teardown_by_parts.Goals as goal

pub returns : goal.returns
returns c = undo_all_split
