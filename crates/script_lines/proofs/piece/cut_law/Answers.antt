use Rattle.script_lines.proofs.Cuts.{script_cut}
use Rattle.script_lines.proofs.piece.cut_law.Goals as goal

pub returns : goal.returns
returns c = script_cut
