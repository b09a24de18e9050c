pub mod Held
pub mod Strings
