pub mod Frames
pub mod Sentences
pub mod Writes
pub mod Items
pub mod Tries
pub mod Reading
pub mod Seen
pub mod Laws
