-- Laws of mending.
pub mod Heights
pub mod Lent
pub mod Littles
pub mod Mending
pub mod Sided
