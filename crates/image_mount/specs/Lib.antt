pub mod Faults
pub mod Mounted
