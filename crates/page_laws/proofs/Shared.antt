-- What crates above may cite of these proofs. All else in this folder is this crate's own.

-- a page as it is carried on, the machine behind the first page, and the pages behind an update, which leaves the names as they are
pub use Rattle.page_laws.proofs.Flushes.{after_first, names_stay, next_page, pages_are}
-- a new name is one that means nothing yet
pub use Rattle.page_laws.proofs.Names.{name_free}
