pub mod Edits
pub mod Answers
pub mod Loads
pub mod Examples
