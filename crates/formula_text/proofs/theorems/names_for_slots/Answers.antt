use Rattle.formula_text.proofs.Slots.{named_back}
use Rattle.formula_text.proofs.theorems.names_for_slots.Goals as goal

pub returns : goal.returns
returns c = named_back
