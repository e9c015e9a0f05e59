pub mod Cutting
pub mod FirstLine
