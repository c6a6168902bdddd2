pub mod NodeHandles
pub mod Nodes
