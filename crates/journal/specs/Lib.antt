pub mod Slots
pub mod Latest
pub mod Writes
pub mod Limits
