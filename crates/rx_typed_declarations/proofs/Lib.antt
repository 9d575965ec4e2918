pub mod ItemLemmas
mod HeldLemmas
pub mod Filling
mod SizeLemmas
mod SizeLaws
pub mod RegionLemmas
pub mod OneType
mod FixingLemmas
pub mod VarianceLemmas
mod RecordLemmas
pub mod Polarities
mod Examples
