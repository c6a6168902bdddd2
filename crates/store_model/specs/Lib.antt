pub mod Betweens
pub mod Standing
pub mod Stores
pub mod Systems
