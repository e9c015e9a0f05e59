pub mod Demonstration
pub mod Keyed
pub mod Version
pub mod Shift
