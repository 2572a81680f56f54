mod Output
mod Sums
