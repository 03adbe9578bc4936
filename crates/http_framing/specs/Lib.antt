pub mod Heads
pub mod HeadTests
pub mod Faults
pub mod Fronts
pub mod Examples
pub mod Parts
