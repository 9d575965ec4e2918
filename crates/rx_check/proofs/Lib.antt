pub mod Variances
pub mod Declared
pub mod Asking
pub mod Judging
pub mod Telling
pub mod Settling
mod CoverLemmas
mod PassLemmas
pub mod NameLemmas
mod ExclusionLemmas
mod ReaderLemmas
mod MainLemmas
