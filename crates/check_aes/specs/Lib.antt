pub mod Answer
pub mod Repeated
pub mod Vector
