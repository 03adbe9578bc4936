pub mod ChairLaws
pub mod MakingLaws
pub mod Walks
