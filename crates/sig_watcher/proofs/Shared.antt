-- What crates above may cite of these proofs. All else in this folder is this crate's own.

-- what the entries of a telling say
pub use Rattle.sig_watcher.proofs.Notices.{entries_told, entries_frozen}
