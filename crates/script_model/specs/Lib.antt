pub mod Spelling
pub mod Reading
pub mod Script
pub mod Refusals
pub mod Numbering
pub mod Faults
