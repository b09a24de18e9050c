pub mod Bytes
pub mod Deltas
pub mod Rows
