pub mod Ending
pub mod Growing
pub mod Narrowing
pub mod Routes
pub mod Stepping
pub mod Trees
pub mod Units
