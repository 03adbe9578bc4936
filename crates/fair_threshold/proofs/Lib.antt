pub mod LevelLaws
pub mod LockedLaws
pub mod ScoreLaws
pub mod SieveLaws
pub mod UnpricedLaws
