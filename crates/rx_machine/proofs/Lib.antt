pub mod TypedLemmas
pub mod TableLemmas
