-- Laws of the print.
pub mod Pieces
pub mod Lines
pub mod Trees
pub mod Bits
pub mod Short
pub mod Totals
pub mod Takes
pub mod Shows
