pub mod LiveOnWalks
pub mod SetOnWalks
pub mod SameTables
pub mod TreesOfTables
