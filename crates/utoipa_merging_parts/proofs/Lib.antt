pub mod Added
pub mod KnownTexts
pub mod Joining
pub mod NewEntries
pub mod Noted
pub mod PlainItems
pub mod Walks
