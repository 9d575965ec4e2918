pub mod GivenAway
