pub mod Example
pub mod ExternalDocs
pub mod Info
pub mod Members
pub mod Path
pub mod Server
pub mod Tag
pub mod Version
