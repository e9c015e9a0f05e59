pub mod Accepted
pub mod Keys
