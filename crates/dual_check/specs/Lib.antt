pub mod Crossing
pub mod Priced
