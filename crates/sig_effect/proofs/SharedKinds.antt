-- What crates above may cite of these proofs. All else in this folder is this crate's own.

-- cells stay cells and computeds computeds, until they are gone
pub use Rattle.sig_effect.proofs.SameKinds.{all_keep_kinds, flushes_keep_kinds}
