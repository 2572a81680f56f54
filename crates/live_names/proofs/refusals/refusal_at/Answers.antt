use Rattle.std.proofs.Common.{sym}
use Rattle.live_names.proofs.refusals.refusal_at.Goals as goal

pub returns-then-is_met : goal.returns-then-is_met
returns-then-is_met c = λ asked. sym (c.is_met.ensures c.if-is_met.true asked c.args.used.now.name.now)

pub returns : goal.returns
returns c = λ asked. c.in_ok-refusal.ensures asked
