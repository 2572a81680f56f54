use Rattle.signal_laws.proofs.AfterChange.{no_memos_law}
use Rattle.signal_laws.proofs.laws.no_memos_law.Goals as goal

pub returns : goal.returns
returns c = no_memos_law
