pub mod Same
pub mod Edited
pub mod ByRule
pub mod ByUpgrade
pub mod Lawful
pub mod Settled
pub mod AtWork
pub mod Turns
