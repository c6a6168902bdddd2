pub mod Keys
pub mod Both
pub mod Loop
pub mod RowLaws
pub mod Texts
pub mod Accepting
pub mod Appending
