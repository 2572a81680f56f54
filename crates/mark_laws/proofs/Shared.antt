-- What crates above may cite of these proofs. All else in this folder is this crate's own.
pub use Rattle.mark_laws.proofs.AfterChange.{set_marks_law, rewire_marks_law, dispose_marks_law, begin_marks_law, run_marks_law, stop_marks_law, cell_marks_law, computed_marks_law}
pub use Rattle.mark_laws.proofs.Unmarked.{prune_law, unmarked_law, unmark_law, searched_law, look_law, explored_law, keeper, marked_spread}
