-- What crates above may cite of these proofs. All else in this folder is this crate's own.

pub use Rattle.effect_laws.proofs.Acts.{all_only_tell, only_then, look_only, result_only}
pub use Rattle.effect_laws.proofs.Events.{turns_only_tell, flushes_only_tell, last_only_tells}
-- how much is told
pub use Rattle.effect_laws.proofs.Lengths.{silent, told_before, told_behind, told_more, undone_told, taken_back_told, disposed_told}
