-- What the doors cite.
pub mod Face
pub mod Doors
