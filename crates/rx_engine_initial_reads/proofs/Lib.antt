pub mod Kept
pub mod Patterns
pub mod Trees
pub mod Programs
pub mod InPrograms
