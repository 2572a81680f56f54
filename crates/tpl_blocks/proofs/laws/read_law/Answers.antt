use Rattle.tpl_blocks.proofs.Levels.{read_law}
use Rattle.tpl_blocks.proofs.laws.read_law.Goals as goal

pub returns : goal.returns
returns c = read_law
