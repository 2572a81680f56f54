-- What crates above may cite of these proofs. All else in this folder is this crate's own.

-- entries and labels by events are those by what the plain world tells
pub use Rattle.live_labels.proofs.Told.{all_rename, all_told, renamed_by, told_by}
-- and so is what is noted
pub use Rattle.live_labels.proofs.Noted.{all_noted, noted_by}
-- without a trace that is told of events, but for what only a trace prints
pub use Rattle.live_labels.proofs.Told.{all_for}
