mod Compacting
pub mod Telling
