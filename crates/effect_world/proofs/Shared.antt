-- What crates above may cite of these proofs.

-- what the tables and the signals did is done to the world
pub use Rattle.effect_world.proofs.Worlds.{owned_still, settle_done, signals_done, tables_done}
pub use Rattle.effect_world.proofs.Undone.{tells_both, tells_one}
-- how much is told
pub use Rattle.effect_world.proofs.Told.{one_told}
-- what lives does so by the signals or by the tables
pub use Rattle.effect_world.proofs.Undone.{gone_tabled, lives_by}
