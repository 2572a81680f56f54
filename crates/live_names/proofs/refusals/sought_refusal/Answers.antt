use Rattle.std.proofs.Common.{rules}
use Rattle.live_names.proofs.refusals.sought_refusal.Goals as goal

pub returns-in_ok-refusal-in_default-Some : goal.returns-in_ok-refusal-in_default-Some
returns-in_ok-refusal-in_default-Some c = λ asked. let a = c.in_ok-refusal-in_default-Some.ensures asked in search rules
