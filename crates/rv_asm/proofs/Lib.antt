pub mod DemoLemmas
pub mod EncodingLemmas
