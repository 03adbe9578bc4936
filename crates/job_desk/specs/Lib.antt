pub mod Keeping
pub mod Looking
pub mod Desks
pub mod Drawing
