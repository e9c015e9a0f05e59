pub mod Fault
pub mod ManufacturerId
