pub mod Replaying
pub mod Numbers
pub mod Reading
pub mod Editions
