pub mod Bytes
pub mod Ranges
pub mod Names
pub mod Values
pub mod Strings
pub mod Entries
pub mod Changes
