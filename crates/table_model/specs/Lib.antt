pub mod Errors
pub mod Document
pub mod Table
pub mod Reading
pub mod Judging
pub mod Laws
