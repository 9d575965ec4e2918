pub mod Dividing
pub mod MemoryLemmas
pub mod ReachLemmas
pub mod RowLemmas
pub mod ValueRules
pub mod WriteLemmas
