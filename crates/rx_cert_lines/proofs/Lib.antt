pub mod Marks
pub mod Numerals
pub mod ItemTexts
pub mod LineTexts
pub mod Wholes
