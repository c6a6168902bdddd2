pub mod Chosen
pub mod Heard
pub mod Names
pub mod OwnLines
pub mod Pairs
pub mod Reached
pub mod Tally
pub mod Told
