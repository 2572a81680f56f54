-- What crates above may cite of these proofs. All else in this folder is this crate's own.

-- a cell of which no change is told stands as it did
pub use Rattle.effect_laws.proofs.StillCells.{all_keep_cells}
