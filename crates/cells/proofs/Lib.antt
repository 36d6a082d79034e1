-- Laws of one slot and one comparison; and of trees that lie in lent memory.
pub mod Signs
pub mod Orders
pub mod Slots
pub mod Writes
pub mod Reps
