-- What the contracts of this crate cite.
pub mod Sides
pub mod Seeks
