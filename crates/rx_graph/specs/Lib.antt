pub mod ByEffects
pub mod Lawfulness
pub mod Equations
pub mod Facts
pub mod Tables
pub mod Worklist
