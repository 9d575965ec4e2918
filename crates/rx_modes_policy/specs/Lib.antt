pub mod Allowed
pub mod Members
