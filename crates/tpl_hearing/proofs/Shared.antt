-- What crates above may cite of these proofs.

-- names that are heard one after the other
pub use Rattle.tpl_hearing.proofs.Names.{heard_in, heard_scratch, keys_append, not_in, nothing_heard, still_heard, then_heard}
-- what was heard, as the outcomes of sources
pub use Rattle.tpl_hearing.proofs.Asks.{have_heard, outcome_in, were_still}
-- names that are heard again
pub use Rattle.tpl_hearing.proofs.HeardAgain.{still_as_before}
-- and of which it is known whether they have the outcomes of before
pub use Rattle.tpl_hearing.proofs.Compared.{still_compared}
-- names of cells that show what was heard
pub use Rattle.tpl_hearing.proofs.Stood.{cells_heard}
pub use Rattle.tpl_hearing.proofs.Cells.{all_but, cells_still, none_differs, StandsStill}
