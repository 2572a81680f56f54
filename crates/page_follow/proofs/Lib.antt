mod Lookups
mod Taken
mod Followed
mod Fed
mod Streams
