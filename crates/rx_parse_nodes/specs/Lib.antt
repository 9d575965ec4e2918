pub mod TestOf
