-- Laws of the walk, of boxes and of the nearest.
pub mod Bests
pub mod Boxed
pub mod Collects
pub mod Cuts
pub mod Edges
pub mod Listed
pub mod Nears
pub mod Standing
pub mod Visits
pub mod Walks
