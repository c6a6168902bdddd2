pub mod Read
pub mod Records
pub mod Regions
pub mod Steps
