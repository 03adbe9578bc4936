pub mod Choices
pub mod Peeling
pub mod Remainder
pub mod Standing
