pub mod Reached
pub mod Walking
pub mod Texts
pub mod Bound
pub mod Right
