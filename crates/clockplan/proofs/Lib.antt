pub mod Faulty
pub mod Names
