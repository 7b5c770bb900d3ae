pub mod Components
pub mod Filled
pub mod Resolve
pub mod Members
