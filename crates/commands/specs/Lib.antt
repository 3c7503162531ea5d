pub mod Settings
pub mod Fields
pub mod Commands
pub mod Seen
