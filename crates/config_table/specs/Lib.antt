pub mod Counted
pub mod Gives
pub mod Keys
pub mod Pushes
pub mod WrittenRows
