pub mod Rules
pub mod Slots
pub mod Merged
pub mod Sorted
pub mod Nested
pub mod Texts
pub mod Example
