-- What crates above may cite of these proofs.

-- one act after the other
pub use Rattle.effect_acts.proofs.Sequences.{acted_then, does_then, formed_bare}
