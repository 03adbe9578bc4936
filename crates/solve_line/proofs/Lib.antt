pub mod ScoreLaws
pub mod VerdictLaws
