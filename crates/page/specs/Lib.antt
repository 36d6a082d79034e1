-- What the contracts of this crate cite; the one that a program uses cites the model alone.
pub mod Trees
pub mod Texts
