pub mod Sources
pub mod Findings
pub mod ComesBack
pub mod InText
pub mod Standing
pub mod Lines
pub mod Views
pub mod Told
