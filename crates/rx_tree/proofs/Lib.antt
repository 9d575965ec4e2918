pub mod ListsLemmas
pub mod Rules
pub mod Layers
pub mod Inverses
pub mod NodesLaws
