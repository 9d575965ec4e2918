pub mod Denoting
pub mod Declaring
pub mod NewItems
