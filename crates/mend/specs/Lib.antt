-- What the contracts of this crate cite.
pub mod Mends
pub mod Listings
pub mod Lists
