pub mod EntryLemmas
pub mod LookLemmas
