pub mod Chairs
pub mod Commands
pub mod Hyphens
pub mod Parsers
pub mod Usage
