-- What crates above may cite of these proofs: laws of the definitions. All else in this folder is this crate's own.

-- tests
pub use Rattle.signal_model.proofs.Tests.{either, or_left, or_right, tested}
-- a recipe that is asked again and again
pub use Rattle.signal_model.proofs.Asks.{asked_by_steps, bad_read, good_read, read_new, unknown_less}
-- slots that aren't known
pub use Rattle.signal_model.proofs.Formulas.{asks_unknown, valueless}
-- what stands
pub use Rattle.signal_model.proofs.Depth.{stands-computed}
-- values along paths of reads
pub use Rattle.signal_model.proofs.Paths.{value_cell, value_gone, value_in, value_run, path_law, cycle_law, is_cycle-true}
pub use Rattle.signal_model.proofs.Paths.{chain_goes, goes_on, left_less, name_is, no_loop}
-- visits, and marks
pub use Rattle.signal_model.proofs.Visits.{visit_by_cases}
pub use Rattle.signal_model.proofs.Marks.{below_law, mark_law}
