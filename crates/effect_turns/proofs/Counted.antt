-- Bodies of scripts that fit want few acts done.
use Rattle.std.proofs.Common.{ℕ, ◌≤◌, [], arith}
use Rattle.signal_model.specs.Recipes.{host}
use Rattle.effect_model.specs.Bodies.{no_more}
use Rattle.effect_model.specs.Owners.{the_signal}
use Rattle.sig_untrack.specs.Links.{Parts}
use Rattle.effect_runs.specs.declared.run.BodyEnd.{BodyEnd}
use Rattle.effect_runs.specs.declared.run.BodyEnd.TheVariants.{Acts, Fail}
use Rattle.effect_runs.specs.Evaluations.{IsShort}

-- places that stand for nothing in particular
pub any_parts : Parts
any_parts = record {
  cells = λ n. 0;
  things = λ n. the_signal 0;
  bodies = λ n. record { statements = no_more; names = [] };
  rewirings = λ n. record { target = 0; recipe = record { expression = host 0; slots = [] } };
}

-- no more than so many are no more than as many or more
pub shorter : (n m : ℕ) (end : BodyEnd) → n ≤ m → IsShort n end → IsShort m end
shorter n m (Acts as') h short = omega (arith, h, short)
shorter n m (Fail e) h short = tt
