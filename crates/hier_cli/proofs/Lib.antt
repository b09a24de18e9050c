pub mod ImageLemmas
pub mod NoticeLemmas
pub mod RowLemmas
pub mod StreamLemmas
pub mod TraceLemmas
