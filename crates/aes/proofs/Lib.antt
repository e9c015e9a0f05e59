pub mod Mapping
pub mod RoundKeys
pub mod Tables
