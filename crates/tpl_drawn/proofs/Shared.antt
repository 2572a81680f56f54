-- What crates above may cite of these proofs.

pub use Rattle.tpl_drawn.proofs.Placed.Placed.{mapped_more}
pub use Rattle.tpl_drawn.proofs.Compares.Comparison.{compare_law}
