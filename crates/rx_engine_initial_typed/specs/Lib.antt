pub mod SameTypes
pub mod ByType
pub mod OfTypes
pub mod Wrong
pub mod BlockOfTypes
