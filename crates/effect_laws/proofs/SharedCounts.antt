-- What crates above may cite of these proofs. All else in this folder is this crate's own.

-- nothing but effects is made
pub use Rattle.effect_laws.proofs.Preservation.{all_keep_counts, flushes_keep_counts}
