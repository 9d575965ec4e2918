pub mod NameLemmas
pub mod TextLemmas
mod WrittenLemmas
