-- What the contracts of this crate cite.
pub mod Boxes
pub mod Nearest
pub mod Standing
pub mod Walks
