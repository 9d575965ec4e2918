pub mod BytesLemmas
pub mod StreamsLemmas
pub mod Results
