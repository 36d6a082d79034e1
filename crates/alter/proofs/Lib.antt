-- Laws of inserting and striking.
pub mod Heirs
pub mod Inserting
pub mod Replaced
pub mod Struck
