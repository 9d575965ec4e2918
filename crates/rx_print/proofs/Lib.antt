-- The goals that no tactic closes: by the lemmas of texts and lists written one part after the other.
pub mod Seen
pub mod WrittenBlocks
pub mod WrittenForms
pub mod WrittenItems
pub mod ReadBack
