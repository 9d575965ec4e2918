pub mod Counted
pub mod Lists
pub mod LeastSets
pub mod Forms
pub mod Functions
pub mod Certified
