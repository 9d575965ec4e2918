pub mod Forms
pub mod Places
pub mod Scopes
pub mod Begun
pub mod Following
