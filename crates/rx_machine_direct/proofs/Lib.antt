pub mod DirectLemmas
pub mod DirectRules
pub mod FormLemmas
pub mod NaturalLemmas
pub mod TableLemmas
