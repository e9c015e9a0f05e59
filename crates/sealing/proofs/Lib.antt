pub mod Chaining
pub mod Cutting
pub mod Made
pub mod Opened
pub mod Padded
pub mod Recovering
pub mod Striking
