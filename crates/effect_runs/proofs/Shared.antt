-- What crates above may cite of these proofs. All else in this folder is this crate's own.

-- cells that have the values still that were read
pub use Rattle.effect_runs.proofs.Still.{still_none, still_settled}
-- bodies that log a cell, and do nothing else
pub use Rattle.effect_runs.proofs.Logged.{logged_result, logged_settled, logged_tracked}
