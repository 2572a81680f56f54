-- What crates above may cite of these proofs. All else in this folder is this crate's own.

-- what is left of entries, and what is printed of it
pub use Rattle.live_entries.proofs.LeftOut.{left_behind, left_prints, left_whole}
-- what is told of entries, with a trace or without
pub use Rattle.live_entries.proofs.LeftOut.{told_all, told_behind, told_both}
