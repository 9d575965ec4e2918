pub mod ItemsOf
