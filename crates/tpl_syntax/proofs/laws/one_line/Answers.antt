use Rattle.tpl_syntax.proofs.Uniqueness.{one_line}
use Rattle.tpl_syntax.proofs.laws.one_line.Goals as goal

pub returns : goal.returns
returns c = one_line
