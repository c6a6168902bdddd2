pub mod Judged
pub mod JudgedRows
pub mod Tables
pub mod Found
pub mod Accepting
pub mod AcceptedTables
pub mod Ready
pub mod Canonical
