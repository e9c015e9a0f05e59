pub mod Call
pub mod KeyFile
pub mod KeyFileOr
pub mod Make
pub mod Open
pub mod Refused
pub mod Seal
pub mod Turned
