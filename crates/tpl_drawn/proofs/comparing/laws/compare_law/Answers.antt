use Rattle.tpl_drawn.proofs.Compares.Comparison.{compare_law}
use Rattle.tpl_drawn.proofs.comparing.laws.compare_law.Goals as goal

pub returns : goal.returns
returns c = compare_law
