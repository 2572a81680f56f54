use Rattle.std.proofs.Common.{arith}
use Rattle.effect_model.specs.Acts.{take_back}
use Rattle.effect_model.specs.Owners.{the_effect}
use Rattle.effect_turns.proofs.Carried.{acted_runs, spends_told}
use Rattle.effect_turns.proofs.run.take_back.Goals as goal

pub returns-in-Ok-clause-done : goal.returns-in-Ok-clause-done
returns-in-Ok-clause-done g c = acted_runs _ _ _ _ _ 0 (λ env. take_back env (the_effect c.args.id)) c.in-Ok.ensures.done

pub returns-in-Ok-clause-spent : goal.returns-in-Ok-clause-spent
returns-in-Ok-clause-spent g c = let w = c.in-Ok.ensures.done.worn in spends_told _ _ (omega (arith, w)) c.in-Ok.ensures.done.most c.in-Ok.ensures.done.told
