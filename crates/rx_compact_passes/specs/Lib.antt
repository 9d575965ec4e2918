pub mod PassAlike
