pub mod Positions
pub mod MergedNumbers
pub mod KnownNumbers
pub mod ShortTypes
pub mod ShortLets
pub mod ShortTyped
