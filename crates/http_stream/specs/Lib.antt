pub mod Exchanges
pub mod Streams
pub mod Intakes
pub mod Turns
