pub mod Answering
pub mod Form
pub mod Repeating
pub mod Texts
