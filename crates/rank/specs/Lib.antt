-- What the contracts of this crate cite.
pub mod Merge
pub mod Ranking
