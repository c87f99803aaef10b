pub mod Books
pub mod Kept
pub mod Look
pub mod SavedPairs
pub mod Steps
pub mod Turns
