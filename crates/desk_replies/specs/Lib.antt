pub mod Objects
pub mod Built
pub mod ImportWords
pub mod Outcomes
pub mod Accepted
pub mod Refusals
pub mod Replies
pub mod Examples
