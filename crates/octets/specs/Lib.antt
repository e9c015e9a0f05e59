pub mod Alteration
pub mod Bytes
pub mod Hex
pub mod Output
