pub mod Far
pub mod Moves
pub mod Turns
