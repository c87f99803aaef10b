pub mod Entries
pub mod Parts
pub mod Putting
pub mod Runs
pub mod Scans
pub mod Shapes
pub mod Spellings
pub mod Written
