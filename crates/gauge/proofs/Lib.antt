-- Laws of one difference and one bound.
pub mod Differences
pub mod Boxes
