-- Laws of the sides and of the search.
pub mod Lasts
pub mod Seeking
