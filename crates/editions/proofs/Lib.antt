pub mod Keeping
pub mod Makes
pub mod Folders
