-- What crates above may cite of these proofs.

-- acts one after the other
pub use Rattle.effect_turns.proofs.Sequences.{runs_then}
pub use Rattle.effect_turns.proofs.Carried.{runs_as, spends_then, can_then}
-- a body that belongs to no effect: the cells of its places are those of its targets; where it reads nothing, nothing is settled
pub use Rattle.effect_turns.proofs.Alone.{cells_first}
pub use Rattle.effect_turns.proofs.Joined.{settle_none}
pub use Rattle.effect_turns.proofs.Counted.{any_parts}
