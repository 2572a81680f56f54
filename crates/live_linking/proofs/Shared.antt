-- What crates above may cite of these proofs. All else in this folder is this crate's own.

-- a body that a script can have fits its links
pub use Rattle.live_linking.proofs.Links.{fit_links}
