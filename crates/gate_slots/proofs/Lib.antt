pub mod Newest
pub mod Phases
pub mod Regions
pub mod Steps
