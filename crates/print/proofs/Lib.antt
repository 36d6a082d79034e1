-- The laws of printing.
pub mod Places
pub mod Decimals
pub mod Signs
pub mod Writes
pub mod Rows
