-- Laws of what is written to a room.
pub mod Fills
pub mod Printing
pub mod Prints
pub mod Rooms
