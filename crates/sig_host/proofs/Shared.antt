-- What crates above may cite of these proofs: laws of the definitions. All else in this folder is this crate's own.

-- the places at first
pub use Rattle.sig_host.proofs.Asks.{is_there-new, count_at-new, most_asked-new}
-- a place that is asked more, or that loses its formula, and the others
pub use Rattle.sig_host.proofs.Asks.{place_at-more, is_there-more, count_at-more, count_at-asked, more_none, more_more, length-asked, place_at-dropped, is_there-dropped, count_at-dropped}
-- the most that any formula was asked
pub use Rattle.sig_host.proofs.Asks.{count_at-most, most_asked-least, most_asked-more, most_asked-dropped}
-- rows that are made of no others
pub use Rattle.sig_host.proofs.Loans.{asked_good}
