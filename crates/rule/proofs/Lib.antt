pub mod Steps
pub mod Written
pub mod LastWords
pub mod Cuts
pub mod Runs
pub mod Talks
pub mod Lives
