-- The laws of taking apart.
pub mod Readings
pub mod Pairs
pub mod NumberBack
pub mod LineBack
pub mod Words
pub mod TitleBack
pub mod Listing
pub mod BookBack
