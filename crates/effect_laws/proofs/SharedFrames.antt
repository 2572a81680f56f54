-- What crates above may cite of these proofs.

-- acts on signals
pub use Rattle.effect_laws.proofs.Frames.{part_same, with_with, framed_then, framed_tell, framed_notify, framed_set, framed_set_quietly, framed_abort, framed_quiet, framed_rewire, framed_settle, framed_cleanup, framed_end}
-- teardowns
pub use Rattle.effect_laws.proofs.Teardowns.{undo_split, undo_all_split, ended_part}
