use Rattle.effect_laws.proofs.StillCells.{all_keep_cells}
use Rattle.effect_laws.proofs.laws.cells_law.Goals as goal

pub returns : goal.returns
returns c = all_keep_cells
