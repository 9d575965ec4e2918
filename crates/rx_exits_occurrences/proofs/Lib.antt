pub mod OccurringLemmas
pub mod NamingLemmas
