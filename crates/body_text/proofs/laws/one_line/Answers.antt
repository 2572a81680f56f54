use Rattle.body_text.proofs.Uniqueness.{one_line}
use Rattle.body_text.proofs.laws.one_line.Goals as goal

pub returns : goal.returns
returns c = one_line
