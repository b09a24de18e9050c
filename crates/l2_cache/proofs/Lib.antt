pub mod AlikeLemmas
pub mod LeaveLemmas
pub mod OneLemmas
pub mod PackedLemmas
pub mod RoomLemmas
pub mod SetLemmas
