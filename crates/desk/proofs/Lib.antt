-- Laws of a fresh pool and of changes.
pub mod Added
pub mod Chains
pub mod Changes
pub mod Gone
pub mod TakesIn
pub mod Worked
