pub mod Strict
pub mod Told
