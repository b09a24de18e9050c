pub mod TableLemmas
pub mod PlaceLemmas
pub mod EffectLemmas
pub mod ChoiceLemmas
pub mod MoveLemmas
pub mod IndexLemmas
pub mod CountLemmas
