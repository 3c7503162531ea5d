pub mod Has
pub mod Sections
