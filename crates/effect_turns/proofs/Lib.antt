mod Sequences
mod Carried
mod Counted
mod Ends
mod Glanced
mod Joined
mod Loops
mod Stills
mod Alone
mod Nearby
mod Bygone
mod Rising
mod Visited
pub mod Shared
