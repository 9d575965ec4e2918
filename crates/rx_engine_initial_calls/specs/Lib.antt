pub mod Received
pub mod Becoming
pub mod GoneThrough
pub mod CallOf
pub mod MatchOf
pub mod RunPieces
