pub mod Evidence
pub mod Reopened
pub mod Best
