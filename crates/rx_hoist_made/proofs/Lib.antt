pub mod Among
pub mod Dropped
pub mod BoundLemmas
pub mod RowLemmas
pub mod FreshLemmas
pub mod Noted
pub mod CountLemmas
