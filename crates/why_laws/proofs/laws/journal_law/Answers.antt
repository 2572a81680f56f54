use Rattle.why_laws.proofs.Recording.{journal_law}
use Rattle.why_laws.proofs.laws.journal_law.Goals as goal

pub returns : goal.returns
returns c = journal_law
