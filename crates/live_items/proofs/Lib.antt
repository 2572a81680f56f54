mod Places
mod Refused
mod Found
