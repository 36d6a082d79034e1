-- What the contracts of this crate cite.
pub mod Changes
pub mod Fresh
