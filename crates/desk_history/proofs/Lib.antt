pub mod TableLaws
mod OpenJobs
mod JobsStay
mod BenchLaws
pub mod WorkLaws
pub mod DueLaws
pub mod RowLaws
pub mod EditLaws
mod KeptLaws
