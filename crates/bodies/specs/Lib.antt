pub mod Decimals
pub mod Fields
pub mod Bodies
pub mod Payloads
pub mod Laws
