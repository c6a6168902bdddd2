pub mod Steps
pub mod Numbers
pub mod Data
pub mod Keywords
pub mod Naming
pub mod Arguments
pub mod Cuts
pub mod Deeds
pub mod Scripts
pub mod FirstFaults
pub mod Lines
pub mod Accepted
mod Examples
