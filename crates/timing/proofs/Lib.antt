pub mod Judging
pub mod Places
pub mod Rows
