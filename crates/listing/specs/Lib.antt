pub mod Reach
pub mod Lines
pub mod Answers
pub mod Plays
pub mod Walks
