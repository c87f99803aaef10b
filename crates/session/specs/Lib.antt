pub mod Book
pub mod Loads
pub mod Orders
pub mod Pairs
pub mod Saves
