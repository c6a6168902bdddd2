pub mod Format
pub mod Mount
