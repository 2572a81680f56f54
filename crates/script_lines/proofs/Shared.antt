-- What crates above may cite of these proofs: laws of pieces. All else in this folder is this crate's own.

-- a script may be cut after a line outside a block
pub use Rattle.script_lines.proofs.Cuts.{script_cut}
-- the pieces of kept lines: a line alone, and the lines of a block up to its end
pub use Rattle.script_lines.proofs.Reader.{block_begins, block_ends, block_goes_on, kept_first, line_alone}
-- the lines of a block: one by one, and short where the block is
pub use Rattle.script_lines.proofs.Blocks.{lines_from, short_held}
pub use Rattle.script_lines.proofs.Short.{short_lines}
