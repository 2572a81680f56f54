use Rattle.std.proofs.Common.{rules}
use Rattle.live_names.proofs.names.Names.refusal_within.Goals as goal

pub returns : goal.returns
returns c = λ asked. let a = c.in_ok-refusal-2.ensures asked in search rules
