pub mod Counts
pub mod Told
pub mod Memory
pub mod Adapters
pub mod FileValues
pub mod Files
