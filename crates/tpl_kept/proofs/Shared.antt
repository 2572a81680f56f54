-- What crates above may cite of these proofs.

-- what was kept before, where it stays and where it is made anew
pub use Rattle.tpl_kept.proofs.Listened.Reuse.{stayed, remade}
