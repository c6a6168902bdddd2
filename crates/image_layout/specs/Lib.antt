pub mod Laws
pub mod Layout
pub mod Parts
pub mod Ready
