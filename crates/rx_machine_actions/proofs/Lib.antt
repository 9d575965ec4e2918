pub mod MakingLemmas
pub mod SpotLemmas
pub mod MatchLemmas
