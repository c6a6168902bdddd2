pub mod Lists
pub mod Numbers
pub mod Marks
pub mod Served
pub mod Creating
pub mod Leading
pub mod Limits
pub mod Kept
