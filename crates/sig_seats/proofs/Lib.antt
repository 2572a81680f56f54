mod Flagged
mod Occupancy
mod Trails
mod NotedFinds
pub mod Shared
