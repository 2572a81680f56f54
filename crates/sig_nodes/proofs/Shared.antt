-- What crates above may cite of these proofs: nodes that are read and written, what lives in them, and what a formula's answer is for its
-- recipe. All else in this folder is this crate's own.
pub use Rattle.sig_nodes.proofs.Edits.{body_got, seat_got, body_past, changed_length, body_changed, seat_stays, seat_other, memo_made}
pub use Rattle.sig_nodes.proofs.Lives.{computed_live, cell_live}
pub use Rattle.sig_nodes.proofs.ReadOn.{formula_ends, formula_needs}
