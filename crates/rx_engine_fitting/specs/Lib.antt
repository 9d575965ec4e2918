pub mod UntypedAt
pub mod HasTypes
