-- Laws of entries, of a sound pool, of a saved book's lines, of trays and of steps.
pub mod Begun
pub mod Counted
pub mod Held
pub mod Inward
pub mod Judged
pub mod Lately
pub mod Saved
pub mod Steps
pub mod There
