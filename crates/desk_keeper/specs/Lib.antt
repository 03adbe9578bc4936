pub mod Keepers
pub mod Names
pub mod Rows
pub mod Reading
pub mod Writing
pub mod Examples
