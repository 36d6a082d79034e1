-- Laws of gathering and rebuilding.
pub mod Gathering
pub mod Shapes
pub mod Rebuilding
pub mod Leaves
