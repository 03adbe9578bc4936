pub mod Venues
pub mod Candidates
pub mod Listed
pub mod Found
pub mod VenueRules
pub mod Parts
