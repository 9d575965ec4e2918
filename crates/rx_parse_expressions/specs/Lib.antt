pub mod Levels
pub mod Likes
pub mod Arms
pub mod ArmOf
pub mod Pieces
pub mod PieceOf
pub mod Members
pub mod Nests
