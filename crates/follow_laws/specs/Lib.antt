pub mod ToldPages
pub mod Laws
