pub mod Apart
pub mod ApartStatements
pub mod Lengths
pub mod PartsLemmas
pub mod PartsNodes
pub mod PositionsLemmas
pub mod Sizes
