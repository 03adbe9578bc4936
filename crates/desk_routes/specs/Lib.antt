pub mod Targets
pub mod Fields
pub mod Asking
pub mod Faults
pub mod Examples
pub mod Served
