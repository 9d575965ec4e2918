pub mod Outliving
pub mod Compacted
