use Rattle.std.proofs.Common.{None}
use Rattle.effect_tables.specs.Bodies.{body_of}
use Rattle.effect_tables.proofs.effect.Effect.named.Goals as goal

pub returns-clause-seen : goal.returns-clause-seen
returns-clause-seen c = λ i. record { number = c.args.id; body = body_of c.args.id (c.in_ok-script.ensures i) (c.new-path.ensures.items i); kept = None }
