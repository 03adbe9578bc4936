pub mod EvidenceLaws
pub mod EntryLaws
pub mod LegalLaws
mod Keeping
pub mod PublishedLaws
pub mod BestLaws
mod Pairs
mod SameJobs
mod MadeLaws
mod Spelled
mod SameEvidence
mod ReopenedLaws
