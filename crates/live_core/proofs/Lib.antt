mod OfKind
mod Names
mod Rightly
mod Commands
mod Doing
mod Batched
mod Creations
mod Mounts
mod Handled
mod Watchers
mod LeftOut
mod Settable
pub mod Shared
