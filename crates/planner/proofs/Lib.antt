pub mod SavedWhole
pub mod Snoc
