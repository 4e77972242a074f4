pub mod Memory
pub mod Lived
