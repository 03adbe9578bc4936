pub mod TrailLaws
pub mod GivenLaws
pub mod ShownLaws
pub mod SessionLaws
pub mod KeptLaws
pub mod FaultLaws
pub mod AcknowledgedLaws
pub mod RouteLaws
