-- What crates above may cite of these proofs. All else in this folder is this crate's own.

-- the HTML of a page that is carried to a shape is that of the shape, and so it is with all that live after a flush
pub use Rattle.live_model.proofs.Html.{flush_law, page_law}
-- an item of a script is as a script has it
pub use Rattle.live_model.proofs.Readable.{item_read}
-- rows that are still to come are rows
pub use Rattle.live_model.proofs.NewRows.{new_rows}
-- what was told one after the other is noted so, and a journal that was begun is still there
pub use Rattle.live_model.proofs.Noted.{noting_both, noting_some, unnoted}
-- of two answers that are none together each is none
pub use Rattle.live_model.proofs.ReadBodies.{neither}
