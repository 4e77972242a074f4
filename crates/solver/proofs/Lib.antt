pub mod Known
pub mod Lists
pub mod Rounds
pub mod Counts
pub mod Ends
pub mod Walks
pub mod Begins
pub mod Finds
