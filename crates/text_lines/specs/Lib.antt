pub mod Fields
pub mod FirstFault
pub mod Forms
pub mod Labels
pub mod LineTests
pub mod Numbers
pub mod Reading
pub mod Texts
