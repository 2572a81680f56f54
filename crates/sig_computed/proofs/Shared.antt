-- What crates above may cite of these proofs. All else in this folder is this crate's own.

-- names that are settled one after the other
pub use Rattle.sig_computed.proofs.Names.{can_still, nothing_settled, then_settled}
