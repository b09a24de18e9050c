pub mod AlikeLemmas
pub mod BytesLemmas
pub mod OneLemmas
pub mod StepLemmas
