pub mod Counted
pub mod CountedRig
pub mod Counts
pub mod Cuts
pub mod Stores
pub mod Whole
