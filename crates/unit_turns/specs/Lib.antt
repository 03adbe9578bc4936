pub mod Examples
pub mod Fixed
pub mod Over
pub mod Paths
pub mod Side
pub mod Steps
