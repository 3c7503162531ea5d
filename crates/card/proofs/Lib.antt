pub mod Puts
pub mod Turns
pub mod Joins
pub mod Sheets
pub mod Answering
