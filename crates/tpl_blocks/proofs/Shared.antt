-- What crates above may cite of these proofs. All else in this folder is this crate's own.

-- lines that are read as a template make one
pub use Rattle.tpl_blocks.proofs.Levels.{read_law}
