pub mod Adding
pub mod Chains
pub mod Closed
pub mod Links
pub mod Step
