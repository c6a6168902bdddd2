pub mod Answers
pub mod Calls
pub mod Naming
pub mod Serving
pub mod Stored
