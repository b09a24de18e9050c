pub mod AlikeLemmas
pub mod FileRunLemmas
pub mod KeepingLemmas
pub mod ListsLemmas
mod MemoryLemmas
mod MoveLemmas
pub mod OneLemmas
mod PlacedLemmas
pub mod RunLemmas
mod SettleLemmas
pub mod TraceLemmas
pub mod WordLemmas
