pub mod FilledLemmas
pub mod TotalLemmas
