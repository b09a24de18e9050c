pub mod LaidLemmas
pub mod SlideLemmas
pub mod StoredLemmas
pub mod TextLemmas
