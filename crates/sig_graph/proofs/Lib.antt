mod Parts
mod Consistency
mod Lookups
mod Searches
mod ReachedSeats
mod Walks
mod HostUse
mod ReadOn
mod KeptLooks
pub mod Shared
mod Seated
mod MarkedStates
mod StateEdits
mod KeptFinds
mod KeptMarks
mod FreshDue
