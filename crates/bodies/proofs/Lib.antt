pub mod Numbers
pub mod Commas
pub mod Bytes
pub mod Parts
pub mod Tells
