pub mod Amounts
pub mod Chaining
pub mod Closing
pub mod Linking
pub mod Steps
