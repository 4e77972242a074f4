pub mod Searches
pub mod Ranges
pub mod Meanings
pub mod Layers
pub mod Rules
pub mod Winning
