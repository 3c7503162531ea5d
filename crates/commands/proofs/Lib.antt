pub mod Digits
pub mod DigitFields
pub mod Heeded
