-- What crates above may cite of these proofs. All else in this folder is this crate's own.

-- ---- the laws

pub use Rattle.effect_laws.proofs.Scripts.{end_law, life_law}
pub use Rattle.effect_laws.proofs.Silence.{silence_law}
pub use Rattle.effect_laws.proofs.Cleanups.{closing_law}
pub use Rattle.effect_laws.proofs.Asks.{body_law}
pub use Rattle.effect_laws.proofs.KeptWorlds.{new_world_law, command_law, flush_law, commands_law}
pub use Rattle.effect_laws.proofs.HostUse.{host_law}
pub use Rattle.effect_laws.proofs.Notified.{notified_law}
pub use Rattle.effect_laws.proofs.Flushes.{rest_law}
pub use Rattle.effect_laws.proofs.QuietFlush.{quiet_flush_law}
-- ---- tests

-- a thing is the same as itself, and two tests together
pub use Rattle.effect_laws.proofs.Trees.{same_self}
pub use Rattle.effect_laws.proofs.Notified.{both}
-- ---- what steps keep

-- what looks and runs keep, turns and flushes keep
pub use Rattle.effect_laws.proofs.Turns.{IsKeptByRuns, turn_keeps, flush_keeps, acts_keep}
-- what each change of the signals keeps, acts, runs and commands keep
pub use Rattle.effect_laws.proofs.Changes.{Core, core_of, IsKeptByEdits, IsKeptByActs, IsKeptByChanges}
pub use Rattle.effect_laws.proofs.Changes.{settle_keeps_core, set_keeps_core, rewire_keeps_core, back_keeps_core, dispose_keeps_core, run_keeps_core}
pub use Rattle.effect_laws.proofs.Changes.{turn_keeps_core, flush_keeps_core, command_keeps, commands_keep}
