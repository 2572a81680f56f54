-- What crates above may cite of these proofs. All else in this folder is this crate's own.

-- a list with one more at its end, and what stands at a place of one
pub use Rattle.sig_seats.proofs.Flagged.{in_get, in_more}
-- seats that are taken and left, and what is found of one
pub use Rattle.sig_seats.proofs.Occupancy.{held_inside, set_size, holder_set}
