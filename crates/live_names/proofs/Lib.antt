mod Nones
mod Unrefused
