pub mod Digits
pub mod Lines
pub mod Names
pub mod Pushes
pub mod Whole
