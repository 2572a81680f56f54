-- What crates above may cite of these proofs. All else in this folder is this crate's own.
pub use Rattle.live_cmd.proofs.Spellings.{one_writing, none_such, such_or_none}
