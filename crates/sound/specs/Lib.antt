-- What the contracts of this crate cite; the last one cites the paper's definition alone.
pub mod Parts
pub mod Tree
pub mod Chain
