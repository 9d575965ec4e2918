-- The goals that no tactic closes: by the lemmas of texts and lists written one part after the other.
pub mod Flat
pub mod Rules
pub mod Written
pub mod WrittenLists
pub mod Seen
pub mod WrittenItems
