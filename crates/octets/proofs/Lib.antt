pub mod Blocks
pub mod Calls
pub mod Chunks
pub mod Digits
pub mod Each
pub mod Fits
pub mod Places
pub mod Xor
