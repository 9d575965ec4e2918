pub mod Direct
pub mod Reaching
pub mod PlainScalar
pub mod PlainReached
