pub mod ObjectLaws
pub mod RightAnswers
pub mod PairLines
