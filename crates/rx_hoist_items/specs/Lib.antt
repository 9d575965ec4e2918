pub mod Signatures
pub mod Calling
