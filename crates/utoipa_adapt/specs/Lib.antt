pub mod Trees
pub mod Rules
pub mod Adapted
pub mod Views
pub mod Said
