pub mod Digits
pub mod Decimals
pub mod Hexadecimal
pub mod Loop
pub mod Numbers
pub mod Refusals
pub mod Scripts
pub mod Verbs
