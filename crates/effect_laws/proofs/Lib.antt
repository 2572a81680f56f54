mod Trees
mod Ledgers
mod Names
mod Turns
mod Steps
mod Creations
mod Runs
mod Scripts
mod Silence
mod Cleanups
pub mod SharedAsks
mod Asks
mod Changes
mod KeptWorlds
mod HostUse
mod Notified
mod Flushes
mod QuietFlush
pub mod Shared
mod Frames
mod Teardowns
pub mod SharedFrames
mod Acts
mod Events
mod Lengths
pub mod SharedEvents
mod Preservation
pub mod SharedCounts
mod StillCells
pub mod SharedCells
