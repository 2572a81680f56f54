mod Examples
mod Kept
mod Single
mod Shaped
mod Origins
mod Made
mod Ordered
mod Evaluated
mod Sized
mod Rows
mod Alike
mod Dependence
mod Orders
mod Numbered
mod PageUpdates
mod Needs
mod NextPage
mod ShownNodes
pub mod MemoEquations
pub mod ChangeEquations
pub mod Shared
