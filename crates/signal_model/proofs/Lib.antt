mod Tests
mod Asks
mod Depth
mod Paths
mod Visits
mod Formulas
mod Marks
pub mod Shared
