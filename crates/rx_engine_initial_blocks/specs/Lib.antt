pub mod AtBlock
pub mod NewCall
