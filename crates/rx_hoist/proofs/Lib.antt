pub mod LevelLemmas
pub mod PartLemmas
pub mod LimitLemmas
pub mod SiteLemmas
pub mod PlaceLemmas
pub mod FunctionLemmas
pub mod HoistingLemmas
