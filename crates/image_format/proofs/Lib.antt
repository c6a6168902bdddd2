pub mod Padded
pub mod Regions
pub mod Starts
