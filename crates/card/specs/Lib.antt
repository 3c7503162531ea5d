pub mod Hearing
pub mod Wholes
