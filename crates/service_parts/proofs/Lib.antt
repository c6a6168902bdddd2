pub mod Closing
pub mod Consistent
pub mod Held
pub mod PathWords
pub mod Served
pub mod TreeLimits
