pub mod Diverging
