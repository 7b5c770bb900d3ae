pub mod Operations
pub mod Lines
pub mod Used
pub mod Counted
pub mod Depth
pub mod Stats
pub mod Views
