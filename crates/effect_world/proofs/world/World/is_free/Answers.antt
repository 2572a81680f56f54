use Rattle.sig_effect.proofs.Shared.{free_then, free_else}
use Rattle.effect_world.proofs.world.World.is_free.Goals as goal

pub returns-then-is_there : goal.returns-then-is_there
returns-then-is_there g c = free_then _ _ c.args.place _ _ c.is_there.ensures c.if-is_there.true c.uses_host.ensures

pub returns-else-is_there : goal.returns-else-is_there
returns-else-is_there g c = free_else _ _ c.args.place _ c.is_there.ensures c.if-is_there.false
