pub mod Sets
pub mod Filling
pub mod Fitting
pub mod Written
