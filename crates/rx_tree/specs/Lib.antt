pub mod Plain
pub mod PlainOf
pub mod Erase
pub mod Lists
pub mod Positions
pub mod Spans
pub mod Nodes
pub mod Size
