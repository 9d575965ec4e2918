pub mod Scopes
pub mod Tables
pub mod Meant
pub mod Steps
pub mod Names
pub mod Items
pub mod Holding
pub mod Causes
