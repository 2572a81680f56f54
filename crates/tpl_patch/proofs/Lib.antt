mod Sorted
mod Numbers
mod Said
mod Subtrees
mod Edits
mod Operations
