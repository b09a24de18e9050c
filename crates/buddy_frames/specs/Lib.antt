pub mod Units
pub mod FrameByte
pub mod Indexes
pub mod Kept
