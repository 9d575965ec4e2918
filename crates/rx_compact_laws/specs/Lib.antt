pub mod MergedSignatures
pub mod MergedLifetimes
pub mod Beside
pub mod Alongside
pub mod Resolved
pub mod ShortNames
