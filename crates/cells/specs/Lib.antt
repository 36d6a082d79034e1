-- What the contracts of the lower crates cite; none of it has to be believed by a reader of the public calls.
pub mod Orders
pub mod Slots
pub mod Memory
