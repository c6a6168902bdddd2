pub mod Kept
pub mod OneByOne
pub mod Rows
pub mod Started
pub mod Whole
