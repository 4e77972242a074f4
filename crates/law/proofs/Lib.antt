pub mod Checked
pub mod Laws
mod Commas
