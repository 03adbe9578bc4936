pub mod Results
pub mod Fields
pub mod Files
pub mod RecordLoop
pub mod Kinds
pub mod Names
pub mod Settings
pub mod Documents
