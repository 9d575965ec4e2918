pub mod JumpLemmas
pub mod ScopeLemmas
pub mod NodeLemmas
pub mod ListLemmas
pub mod SpanLemmas
pub mod MovedLemmas
