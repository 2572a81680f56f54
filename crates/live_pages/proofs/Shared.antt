-- What crates above may cite of these proofs. All else in this folder is this crate's own.

-- pages stay pages: where the tables stay, where those are dropped that ended, and where one is made
pub use Rattle.live_pages.proofs.Drops.{all_standing, fewer, pages_filtered, pages_kept, pages_more, plain_filtered, shown_filtered, shown_more}
