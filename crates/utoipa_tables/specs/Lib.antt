pub mod Tables
pub mod Titles
