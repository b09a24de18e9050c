pub mod CallLines
pub mod Called
pub mod Calls
pub mod Copies
