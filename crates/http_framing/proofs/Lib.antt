pub mod HeadLaws
pub mod DigitLaws
pub mod ReadLaws
pub mod StayLaws
pub mod FrontLaws
pub mod EndLaws
