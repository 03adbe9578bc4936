pub mod Hosts
pub mod Sessions
pub mod Given
pub mod Laws
