mod CallLemmas
pub mod CodeLemmas
pub mod FollowsLemmas
pub mod HeadlineLemmas
mod JoinLemmas
pub mod OneBeatLemmas
mod ProgramLemmas
mod StepLemmas
