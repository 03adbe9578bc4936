pub mod PartLaws
pub mod EditLaws
pub mod PlaceLaws
pub mod ServedLaws
