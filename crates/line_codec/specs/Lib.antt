pub mod Layout
pub mod Payloads
pub mod Slots
