pub mod BytesLemmas
pub mod DeltaLemmas
pub mod RoundTrip
pub mod RowLemmas
