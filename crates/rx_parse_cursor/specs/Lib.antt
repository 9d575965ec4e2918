pub mod Place
pub mod GotOf
pub mod Elements
pub mod GroupedOf
