pub mod SettingOf
pub mod Rows
pub mod Members
pub mod Ends
pub mod Wants
