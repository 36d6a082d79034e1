-- What the contracts of this crate cite.
pub mod Place
pub mod Line
pub mod Title
