-- What crates above may cite of these proofs. All else in this folder is this crate's own.

-- each script has items
pub use Rattle.script_items.proofs.Totality.{some_items}
-- a command by itself begins no block
pub use Rattle.script_items.proofs.FirstWords.{begins_none}
