use Rattle.std.proofs.Common.{ap, ◌∙◌}
use Rattle.effect_world.proofs.Undone.{stood, stood_there}
use Rattle.effect_world.proofs.world.World.is_signal.Goals as goal

pub returns-in-Gone : goal.returns-in-Gone
returns-in-Gone c = ap stood c.in-Gone.ensures ∙ stood_there _ _

pub returns-in-Cell : goal.returns-in-Cell
returns-in-Cell c = ap stood c.in-Cell.ensures ∙ stood_there _ _

pub returns-in-Computed : goal.returns-in-Computed
returns-in-Computed c = ap stood c.in-Computed.ensures ∙ stood_there _ _

pub returns-in-Computing : goal.returns-in-Computing
returns-in-Computing c = ap stood c.in-Computing.ensures ∙ stood_there _ _
