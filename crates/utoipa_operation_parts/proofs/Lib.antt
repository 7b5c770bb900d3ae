pub mod ResponsesByCode
pub mod LaterResponses
pub mod UnambiguousParameters
