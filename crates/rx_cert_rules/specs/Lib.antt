pub mod Written
pub mod Rules
pub mod Verdicts
pub mod Parts
