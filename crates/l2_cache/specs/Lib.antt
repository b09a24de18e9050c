pub mod Packed
pub mod PackedLines
pub mod PackedSet
pub mod Room
pub mod SecondCalls
pub mod SecondLevel
pub mod Turns
