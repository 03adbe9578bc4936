pub mod Back
pub mod Compile
pub mod Examples
pub mod Network
pub mod Scaled
pub mod Spans
pub mod Totals
