-- What crates above may cite of these proofs: that an operation which has a text may be done. All else in this folder is this crate's own.
pub use Rattle.page_ops.proofs.Texts.{text_brings}
