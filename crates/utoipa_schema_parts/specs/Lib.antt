pub mod Discriminator
pub mod Format
pub mod Members
pub mod Types
pub mod Xml
