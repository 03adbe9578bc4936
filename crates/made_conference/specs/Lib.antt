pub mod Numbers
pub mod Pairs
pub mod Rows
pub mod Tables
