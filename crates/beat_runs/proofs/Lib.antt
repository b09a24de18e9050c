pub mod OneRun
pub mod PointLemmas
pub mod StandLemmas
pub mod WordLemmas
