pub mod Places
pub mod Accesses
pub mod Loans
pub mod PlainOf
pub mod Tables
pub mod Accepted
pub mod Answer
