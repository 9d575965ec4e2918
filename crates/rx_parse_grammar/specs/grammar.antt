pub mod Words
pub mod Types
pub mod Patterns
pub mod Strengths
pub mod Expressions
pub mod Items
pub mod Begins
