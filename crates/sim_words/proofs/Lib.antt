pub mod BeatLemmas
pub mod PlainMatches
pub mod PlainWalk
pub mod ReadLemmas
pub mod PowerLemmas
pub mod TextLemmas
pub mod ValueLemmas
