mod Counting
mod Cuts
pub mod Faults
mod Files
mod LastFiles
mod Whole
