pub mod Alteration
pub mod Check
pub mod Crc32
pub mod Hardware
pub mod Lawful
pub mod Make
