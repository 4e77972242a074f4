pub mod Search
pub mod Meaning
pub mod Ranks
pub mod Strategies
pub mod Final
