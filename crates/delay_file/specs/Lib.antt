pub mod Bytes
pub mod Files
pub mod Kinds
pub mod Records
pub mod Writes
