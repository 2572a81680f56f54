-- What crates above may cite of these proofs.

-- no way begins where there is no such node
pub use Rattle.page_events.proofs.Ways.{no_way_at}
