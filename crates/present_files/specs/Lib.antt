pub mod Dropped
pub mod Durable
pub mod Kept
pub mod Nodes
pub mod Present
