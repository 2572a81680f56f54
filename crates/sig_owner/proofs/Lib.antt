mod Rows
mod Walks
mod Teardowns
mod Counts
mod Consistency
mod Ends
mod Placement
mod Removals
mod Forests
mod Membership
mod Survivors
mod Vacancies
mod Trees
mod Absent
mod Looks
mod TreeLaws
mod Renamed
pub mod Shared
