pub mod CallLemmas
pub mod Lines
pub mod Products
pub mod Stops
