pub mod Blocks
pub mod Damage
pub mod Open
pub mod Padding
pub mod Seal
