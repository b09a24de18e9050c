pub mod AcceptedLemmas
pub mod HeaderLemmas
pub mod LoadLemmas
pub mod PageLemmas
pub mod RowLemmas
