pub mod Beside
pub mod Built
pub mod Counts
pub mod EncodingParts
pub mod Weights
pub mod UnambiguousEncodings
