pub mod TypeRules
pub mod Breaking
