pub mod EmptyImage
pub mod Laws
pub mod NamedBlocks
