pub mod NamesMeant
pub mod Stands
pub mod Placed
pub mod Functions
pub mod Scoped
