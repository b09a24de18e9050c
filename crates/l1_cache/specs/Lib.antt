pub mod FirstCalls
pub mod FirstLevel
pub mod Touches
