pub mod Loads
pub mod Five
pub mod Sets
pub mod Obeys
