pub mod Blocks
pub mod Quota
