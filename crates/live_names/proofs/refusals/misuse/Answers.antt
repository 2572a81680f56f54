use Rattle.std.proofs.Common.{rules}
use Rattle.live_names.proofs.refusals.misuse.Goals as goal

pub returns-then-is_gone : goal.returns-then-is_gone
returns-then-is_gone c = λ asked. let a = c.is_gone.ensures asked in search rules

pub returns-then-meets : goal.returns-then-meets
returns-then-meets c = λ asked. let a = c.is_gone.ensures asked in search rules

pub returns : goal.returns
returns c = λ asked. let a = c.is_gone.ensures asked in search rules
