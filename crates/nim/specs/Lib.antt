pub mod Nims
pub mod NimLaws
pub mod Positions
pub mod Turns
