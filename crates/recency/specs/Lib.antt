pub mod Kept
pub mod Levels
pub mod Marks
pub mod Placed
pub mod Ring
pub mod Slots
pub mod Steps
pub mod Uses
