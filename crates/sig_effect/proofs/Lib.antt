mod Asks
mod Start
mod Edits
mod Committed
mod Acts
mod HostStates
mod Names
pub mod Shared
mod Signals
mod Users
mod Watched
mod SameKinds
pub mod SharedKinds
