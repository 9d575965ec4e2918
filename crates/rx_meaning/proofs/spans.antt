pub mod Bare
pub mod Elaborating
pub mod Cursors
pub mod Numbering
pub mod Functions
