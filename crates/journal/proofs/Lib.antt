pub mod Search
pub mod Writes
pub mod Appends
