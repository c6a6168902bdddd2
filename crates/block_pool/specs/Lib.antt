pub mod Buffers
pub mod Lending
pub mod Links
pub mod Lists
pub mod PoolLending
