-- What crates above may cite of these proofs.

pub use Rattle.event_model.proofs.Lines.{line_of_address, line_of_node}
pub use Rattle.event_model.proofs.Ways.{way_by_parent}
