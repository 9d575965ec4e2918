pub mod ApartFromSpans
pub mod SameTyped
