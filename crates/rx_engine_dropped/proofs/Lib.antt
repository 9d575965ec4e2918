pub mod UnitCalls
pub mod Same
pub mod Guarded
pub mod Undropping
