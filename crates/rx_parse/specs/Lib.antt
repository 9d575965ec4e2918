pub mod Place
pub mod Answer
