pub mod Table
pub mod Loads
