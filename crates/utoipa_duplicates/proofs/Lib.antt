mod Places
mod Unique
