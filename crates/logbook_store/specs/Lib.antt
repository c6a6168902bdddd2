pub mod Books
pub mod Laws
pub mod Logs
pub mod Moves
pub mod Regions
pub mod Sizes
