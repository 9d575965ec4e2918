pub mod EnumFits
