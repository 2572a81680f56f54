-- What crates above may cite of these proofs. All else in this folder is this crate's own.

-- where neither answers, and what isn't something
pub use Rattle.live_core.proofs.Rightly.{neither, none_there}
-- as many handlers are seen as there are
pub use Rattle.live_core.proofs.Handled.{handlers_count}
-- what is done where all is told, and where no trace is asked for
pub use Rattle.live_core.proofs.LeftOut.{did_all, did_for, did_hiding}
-- what may be done that asks no host formula, and what may ask them
pub use Rattle.live_core.proofs.Doing.{can_ask, did_alone}
-- a cell that may be set, and what it comes to by its name
pub use Rattle.live_core.proofs.Settable.{cell_stands}
pub use Rattle.live_core.proofs.Batched.{setting_as}
