pub mod Examples
pub mod Faults
pub mod Institutions
pub mod Lists
pub mod Reports
pub mod Tables
