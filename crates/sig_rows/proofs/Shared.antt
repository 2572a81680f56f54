-- What crates above may cite of these proofs: rows stay rows when they are edited. All else in this folder is this crate's own.

pub use Rattle.sig_rows.proofs.Kept.{inserted, valued}
pub use Rattle.sig_rows.proofs.Keys.{marked_others}
pub use Rattle.sig_rows.proofs.Moves.{moved_rows}
