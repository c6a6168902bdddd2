pub mod Calls
pub mod Naming
pub mod Partitions
pub mod Sessions
pub mod Steps
