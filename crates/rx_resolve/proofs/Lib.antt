pub mod ItemLemmas
pub mod WalkLemmas
pub mod WalkRules
mod ScopeLemmas
pub mod ResolveLemmas
