pub mod Lines
pub mod Texts
pub mod Places
pub mod Pages
