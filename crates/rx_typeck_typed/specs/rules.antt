pub mod Types
pub mod Places
pub mod Patterns
pub mod Expressions
pub mod Operators
pub mod Statements
pub mod Forms
pub mod Pieces
