pub mod KeptLemmas
pub mod ListLemmas
pub mod PlanLemmas
pub mod TotalLemmas
pub mod PageLemmas
