pub mod Tables
pub mod Trees
pub mod Renames
pub mod Walks
pub mod Removals
pub mod Places
pub mod Keys
