use Rattle.std.proofs.Common.{ap, ◌∙◌}
use Rattle.effect_acts.proofs.Refusals.{cell_stands, cell_there}
use Rattle.effect_acts.proofs.recipes.is_cell.Goals as goal

pub returns-in-Cell : goal.returns-in-Cell
returns-in-Cell c = ap cell_stands c.in-Cell.ensures ∙ cell_there _ _

pub returns-in-Gone : goal.returns-in-Gone
returns-in-Gone c = ap cell_stands c.in-Gone.ensures ∙ cell_there _ _

pub returns-in-Computed : goal.returns-in-Computed
returns-in-Computed c = ap cell_stands c.in-Computed.ensures ∙ cell_there _ _

pub returns-in-Computing : goal.returns-in-Computing
returns-in-Computing c = ap cell_stands c.in-Computing.ensures ∙ cell_there _ _
