pub mod Pages
pub mod Plans
pub mod Contents
