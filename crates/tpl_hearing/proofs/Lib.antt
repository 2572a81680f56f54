mod Names
mod Asks
mod Compared
mod HeardAgain
mod Fronts
mod Paired
mod Unmoved
mod Stood
mod Noted
mod Cells
pub mod Shared
