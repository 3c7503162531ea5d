pub mod Bytes
pub mod Done
