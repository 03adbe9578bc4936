pub mod CommandLaws
mod FindLaws
mod MapLaws
mod PlaceLaws
