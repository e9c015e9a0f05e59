pub mod Accepting
pub mod Agreement
pub mod Altering
pub mod Checksum
pub mod Composing
pub mod Making
pub mod Sets
