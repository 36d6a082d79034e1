-- Laws of ranking.
pub mod Sorting
pub mod Merging
pub mod Halving
pub mod Placing
pub mod Threes
pub mod Cutting
