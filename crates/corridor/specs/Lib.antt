pub mod Corridors
pub mod CorridorLaws
