pub mod Bits
pub mod Codes
pub mod Least
pub mod Line
pub mod Reading
