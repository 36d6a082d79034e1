-- What each call leaves behind the gate.
pub mod Counts
pub mod Lists
pub mod LookUps
pub mod Nearby
pub mod Saves
pub mod Starts
pub mod TakesIn
pub mod Trays
pub mod Written
