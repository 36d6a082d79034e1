-- What the contracts of this crate cite.
pub mod Books
pub mod Items
pub mod Judging
pub mod Saved
pub mod Sounds
