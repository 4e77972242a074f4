pub mod Printed
pub mod Told
