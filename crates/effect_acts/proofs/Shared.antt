-- What crates above may cite of these proofs.

-- one event is told, nothing is done, or the same is done by another name
pub use Rattle.effect_acts.proofs.Acts.{acted_as, acted_at, acted_lent, acted_still, acted_told}
