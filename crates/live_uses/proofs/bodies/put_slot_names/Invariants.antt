use Rattle.std.proofs.Common.{◌≡◌, ◌++◌, take, map, flat_map}
use Rattle.live_model.specs.declared.names.Need.TheVariants as need
use Rattle.live_model.specs.Uses.{uses_at}
use Rattle.live_uses.specs.Views.{use_of}
use Rattle.live_uses.proofs.bodies.put_slot_names.Given as goal

-- the names of the slots so far
abbrev pub invariant-loop-slot : goal.invariant-loop-slot
invariant-loop-slot l =
    map use_of l.uses.items ≡ map use_of l.fn.uses.items ++ flat_map (λ s. uses_at l.names s need.Signal) (take l.slot-index l.slots)
