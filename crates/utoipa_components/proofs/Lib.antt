pub mod Drained
pub mod Found
pub mod MoreLooks
pub mod Refused
pub mod FilledMaps
pub mod PutTwice
pub mod UnambiguousMaps
