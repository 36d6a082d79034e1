-- What the contracts of this crate cite.
pub mod Alters
pub mod Strikes
